-- Maps of what holds a node: a link, an option, a box.
use Rattle.std.specs.Prelude.{Option, Some, None, Box}
use Rattle.std.specs.declared.alloc.Global.{Global}
use Rattle.swc_ecma_codegen_tree.specs.declared.links.Link.{Link}

abbrev pub map_link : {K X : Type 0} → (X → X) → Link K X → Link K X
map_link f l = record l { node = record l.node { value = f l.node.value } }

abbrev pub map_option : {A : Type 0} → (A → A) → Option A → Option A
map_option f None = None
map_option f (Some x) = Some (f x)

abbrev pub map_box : {A : Type 0} → (A → A) → Box A Global → Box A Global
map_box f b = record b { value = f b.value }
