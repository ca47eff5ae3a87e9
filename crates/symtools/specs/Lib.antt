pub mod SymbolLines
pub mod NmLists
pub mod SizeLines
pub mod Files
