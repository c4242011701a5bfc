-- What a link holds, whatever it is, to be changed in place.
use Rattle.std.specs.Borrow.{Fml, Lends, MutBor, RattleType}
use Rattle.std.specs.Box.{with_value}
use Rattle.swc_ecma_codegen_tree.specs.contracts.links.Link.{the_row}
use Rattle.swc_ecma_codegen_tree.specs.declared.links.Link.{Link}

-- the link with another node behind it
abbrev pub with_target : {K N : Type 0} → Link K N → N → Link K N
with_target link node = record link { node = with_value link.node node }

-- the link ends with what the caller left behind the reference
abbrev pub LendsTarget : (K N : RattleType) → MutBor (Link K.Denot N.Denot) → MutBor N.Denot → Fml
LendsTarget K N link lent = Lends (the_row K N) N link lent (with_target link.now)
