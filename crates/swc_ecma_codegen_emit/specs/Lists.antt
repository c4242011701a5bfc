-- Lists of nodes.
use Rattle.std.specs.Prelude.{ℕ, Bool, false, if◌then◌else◌, List, [], ◌∷◌, Option, Some, None, codes}
use Rattle.swc_ecma_codegen_tokens.specs.Run.{Part, refuse}
use Rattle.swc_ecma_codegen_tokens.specs.declared.refusals.Unprintable.TheVariants as unprintable
use Rattle.swc_ecma_codegen_common.specs.declared.positions.Span.{Span}
use Rattle.swc_ecma_codegen_spans.specs.Spans.{dummy_span}
use Rattle.swc_ecma_codegen_grammar.specs.ListFormats.{preserves_lines}
use Rattle.swc_ecma_codegen_emit.specs.declared.nodes.Context.TheVariants.{Plain}
use Rattle.swc_ecma_codegen_emit.specs.Places.{Place, Whole}
use Rattle.swc_ecma_codegen_tokens.specs.Lists.{ListChild, first_child, next_child, list_after, list}
use Rattle.swc_ecma_codegen_tokens.specs.Words.{punct, formatting_space}

-- a node that has no text here, or none yet
unfoldable pub unsupported : Part
unsupported rest = refuse unprintable.UnsupportedNode rest

-- a comma and a blank, except before the first
unfoldable pub comma : Bool → Part
comma first rest = if first then rest else punct (codes ",") (formatting_space rest)

-- the nodes, with commas between
unfoldable pub listed : {A : Type 0} → (A → Part) → Bool → List A → Part
listed each first [] rest = rest
listed each first (x ∷ xs) rest = comma first (each x (listed each false xs rest))

-- a node that stands anywhere
abbrev pub plainly : {A : Type 0} → (A → Place → Part) → A → Part
plainly items x = items x (Whole Plain)

-- the nodes, one after another
unfoldable pub in_order : {A : Type 0} → (A → Part) → List A → Part
in_order each [] rest = rest
in_order each (x ∷ xs) rest = each x (in_order each xs rest)

-- what is there
unfoldable pub if_some_at : {A : Type 0} → (A → Place → Part) → Option A → Place → Part
if_some_at items None place rest = rest
if_some_at items (Some x) place rest = items x place rest

-- a child of a list, by where it stands and what is written of it
abbrev pub child_at : Span → Part → ListChild
child_at place part = record { place = place; part = part }

abbrev pub child_of : {A : Type 0} → (A → Span) → (A → Place → Part) → A → ListChild
child_of place items x = child_at (place x) (items x (Whole Plain))

-- A place, as far as the lines of a list ask for it: only those do that end where the source text's do.
unfoldable pub as_asked : ℕ → Span → Span
as_asked format place = if preserves_lines format then place else dummy_span

-- A child among those that stand in braces, after one that stands at `previous` where there is one.
unfoldable pub braced_child : ℕ → Span → Option Span → ListChild → Part
braced_child format parent None x rest = first_child format parent x rest
braced_child format parent (Some previous) x rest = next_child format previous x rest

-- the rest of them, and what closes the list
unfoldable pub braced_rest : ℕ → Span → Option Span → List ListChild → Part
braced_rest format parent None xs rest = list format parent xs rest
braced_rest format parent (Some previous) xs rest = list_after format parent previous xs rest
