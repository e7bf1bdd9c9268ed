pub mod BriefTexts
pub mod MadeBlocks
pub mod MadeCommandLines
pub mod MadeLines
pub mod MadeNames
pub mod MadeScriptTexts
pub mod MadeTexts
pub mod MadeTitles
