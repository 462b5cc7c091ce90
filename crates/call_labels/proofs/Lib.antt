pub mod CallLabels
