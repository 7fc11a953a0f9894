pub mod DirectionEquals
