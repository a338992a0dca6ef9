-- What the code of the calls leans on, by file of the code.
pub mod CodePush
pub mod CodeConstrain
pub mod CodePop
pub mod CodeList
