-- Lists whose elements are related place by place (this project's own rule).

-- each element is related to the one at its place
pub use Rattle.std.specs.List.{AllZip as EachRelated}
