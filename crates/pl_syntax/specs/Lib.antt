pub use Rattle.pl_text.specs.Words
pub use Rattle.pl_text.specs.Tokens as TextTokens
pub mod Symbols
pub mod Tokens
pub mod Faults
pub mod Parsing
pub mod Spelling
pub mod Expressions
pub mod Forms
pub mod Trees
pub mod Grammar
pub mod ReadingExpressions
pub mod Reading
pub mod Gives
pub mod Marks
pub mod Answers
pub mod Canonical
