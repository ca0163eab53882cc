-- A picture, block by block, with its ruler.
pub mod Places
pub mod Pages
pub mod RulerNumbers
