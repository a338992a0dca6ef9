-- `batch::serving::operate` meets its contract: what each operation gives is what `operated_core` says. Assumes nothing.
use Rattle.pool.specs.Lent.{world_in}
use Rattle.pool.proofs.Fine.{whole_ready}
use Rattle.batch.specs.Core.{operated_core}
use Rattle.batch.proofs.CodeServing.{moved_replied, clear_fresh, top_told, len_told, acts}
use Rattle.batch.proofs.serving.operate.Goals as goal

pub push-requires : goal.push-requires
push-requires c = whole_ready c.requires

pub pop-requires : goal.pop-requires
pop-requires c = whole_ready c.requires

pub constrain-requires : goal.constrain-requires
constrain-requires c = whole_ready c.requires

pub reset-requires : goal.reset-requires
reset-requires c = whole_ready c.requires

pub clear_to-requires : goal.clear_to-requires
clear_to-requires c = whole_ready c.requires

pub returns-in-Push-clause-gives : goal.returns-in-Push-clause-gives
unfolding operated_core
returns-in-Push-clause-gives c =
    let w = world_in c.args.engine.now.state c.args.pool.now in
    acts w c.in-Push.is c.push.ensures.gives

pub returns-in-Pop-clause-gives : goal.returns-in-Pop-clause-gives
unfolding operated_core
returns-in-Pop-clause-gives c =
    let w = world_in c.args.engine.now.state c.args.pool.now in
    acts w c.in-Pop.is c.pop.ensures.gives

pub returns-in-Constrain-clause-gives : goal.returns-in-Constrain-clause-gives
unfolding operated_core
returns-in-Constrain-clause-gives c =
    let w = world_in c.args.engine.now.state c.args.pool.now in
    acts w c.in-Constrain.is c.constrain.ensures.gives

pub returns-in-Clear-clause-gives : goal.returns-in-Clear-clause-gives
unfolding operated_core
returns-in-Clear-clause-gives c =
    let w = world_in c.args.engine.now.state c.args.pool.now in
    acts w c.in-Clear.is (moved_replied c.moved.ensures (clear_fresh w c.reset.ensures.fresh))

pub returns-in-ClearTo-clause-gives : goal.returns-in-ClearTo-clause-gives
unfolding operated_core
returns-in-ClearTo-clause-gives c =
    let w = world_in c.args.engine.now.state c.args.pool.now in
    acts w c.in-ClearTo.is c.clear_to.ensures.gives

pub returns-in-Top-clause-gives : goal.returns-in-Top-clause-gives
unfolding operated_core
returns-in-Top-clause-gives c =
    let w = world_in c.args.engine.now.state c.args.pool.now in
    acts w c.in-Top.is (top_told c.requires c.moved-in-Top.ensures c.top.ensures)

pub returns-in-Length-clause-gives : goal.returns-in-Length-clause-gives
unfolding operated_core
returns-in-Length-clause-gives c =
    let w = world_in c.args.engine.now.state c.args.pool.now in
    acts w c.in-Length.is (len_told w c.moved-in-Length.ensures)
