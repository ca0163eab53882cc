pub mod OwnEnds
