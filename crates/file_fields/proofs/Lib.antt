pub mod FieldWrites
