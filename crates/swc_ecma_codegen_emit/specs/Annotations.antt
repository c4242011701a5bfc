-- What is written of what types add to other nodes.
use Rattle.std.specs.Prelude.{ℕ, Bool, if◌then◌else◌, List, Option, Some, None, codes}
use Rattle.swc_ecma_codegen_tree.specs.Links.{TsTypeAnnBox, TsTypeParamDeclBox, TsTypeParamInstantiationBox}
use Rattle.swc_ecma_codegen_tokens.specs.Run.{Part}
use Rattle.swc_ecma_codegen_tokens.specs.Words.{keyword, punct, space, formatting_space}
use Rattle.swc_ecma_codegen_emit.specs.declared.nodes.Context.{Context}
use Rattle.swc_ecma_codegen_emit.specs.declared.nodes.Context.TheVariants.{Plain}
use Rattle.swc_ecma_codegen_emit.specs.Places.{Place, Whole}

-- `: A` of `a: A`
unfoldable pub annotation : {X : Type 0} → (X → Place → Part) → Option (TsTypeAnnBox X) → Part
annotation items None rest = rest
annotation items (Some n) rest = punct (codes ":") (formatting_space (items n.node.value (Whole Plain) rest))

-- `: A` of `[a]: A`, with a blank always
unfoldable pub spaced_annotation : {X : Type 0} → (X → Place → Part) → Option (TsTypeAnnBox X) → Part
spaced_annotation items None rest = rest
spaced_annotation items (Some n) rest = punct (codes ":") (space (items n.node.value (Whole Plain) rest))

-- `!`, where it is so
unfoldable pub bang : Bool → Part
bang definite rest = if definite then punct (codes "!") rest else rest

-- `!: A` of a field, with a blank always; without a type nothing
unfoldable pub field_annotation : {X : Type 0} → (X → Place → Part) → Bool → Option (TsTypeAnnBox X) → Part
field_annotation items definite None rest = rest
field_annotation items definite (Some n) rest = bang definite (punct (codes ":") (space (items n.node.value (Whole Plain) rest)))

-- `<A>` of `f<A>()`, by where it stands
unfoldable pub type_args : {X : Type 0} → (X → Place → Part) → Context → Option (TsTypeParamInstantiationBox X) → Part
type_args items context None rest = rest
type_args items context (Some n) rest = items n.node.value (Whole context) rest

-- `<A>` of `function f<A>() {}`
unfoldable pub type_params : {X : Type 0} → (X → Place → Part) → Option (TsTypeParamDeclBox X) → Part
type_params items None rest = rest
type_params items (Some n) rest = items n.node.value (Whole Plain) rest

-- `TypeArguments`, `TypeParameters`, `TupleTypeElements` and `Parameters`
abbrev pub types_format : ℕ
types_format = 272

-- a word and a blank, where it is so
unfoldable pub word_before : Bool → List ℕ → Part
word_before wanted t rest = if wanted then keyword None t (space rest) else rest
