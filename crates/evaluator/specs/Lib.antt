pub mod Evaluator
