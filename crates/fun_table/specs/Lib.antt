pub mod FunNumbers
