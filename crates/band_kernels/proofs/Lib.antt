pub mod ChosenLines
