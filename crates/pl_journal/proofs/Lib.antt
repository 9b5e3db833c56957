pub mod AboutParsing
pub mod AboutRendering
pub mod AboutWriting
