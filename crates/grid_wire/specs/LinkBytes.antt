-- The bytes of links.
use Rattle.std.specs.Prelude.{ℕ, List}
use Rattle.sheet_grid.specs.declared.Link.{Link}
use Rattle.base_wire.specs.Encoding.{encode_text, FitsText}

-- where it leads
abbrev pub encode_link : Link → List ℕ
encode_link link = encode_text link.target

-- a text of Rust
abbrev pub FitsLink : Link → Type 0
FitsLink link = FitsText link.target
