-- What private functions promise one another.
pub mod ModePlaces
pub mod RuleNames
-- bytes that are seen
pub mod SeenBytes
