-- `pool::examination::FitPool::free_chain_stands` meets its contract: what is left of the budget is none, just if the walk gives 1.
use Rattle.std.proofs.Common.{◌≡◌, ℕ, eqb, Option, Some, None, rules, refl, ap, ◌∙◌}
use Rattle.std.proofs.lemmas.Bool.Decides.{nat_tests}
use Rattle.std.specs.Option.{option_eq}
use Rattle.pool.specs.Walk.{left_over}
use Rattle.pool.specs.Examine.{ok_free}
use Rattle.pool.proofs.CodeExam.{back_room}
use Rattle.pool.proofs.examination.FitPool.free_chain_stands.Goals as goal

none_left : (o : Option ℕ) → option_eq eqb o (Some 0) ≡ eqb (left_over o) 1
unfolding left_over
none_left None = refl
none_left (Some left) = search (nat_tests, rules)

pub invariant_of-slots-clause-room : goal.invariant_of-slots-clause-room
invariant_of-slots-clause-room c = back_room c.args.self.now.fit

pub returns : goal.returns
unfolding ok_free
returns c = c.eq.ensures ∙ none_left c.walk.result ∙ ap (λ (n : ℕ). eqb n 1) c.walk.ensures
