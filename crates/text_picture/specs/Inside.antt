-- How a picture is drawn bit by bit.
pub mod PictureRest
