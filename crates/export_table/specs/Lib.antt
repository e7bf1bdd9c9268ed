pub mod Exports
pub mod FunctionKeys
