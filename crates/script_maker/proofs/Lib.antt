pub mod Growing
pub mod MadeCommands
pub mod MadeModules
pub mod MadeScripts
