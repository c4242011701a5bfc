-- What types add to other nodes. `f` says what is read of what a link holds, in its role. TypeScript, sections "Everyday Types" and "Generics".
use Rattle.std.specs.Prelude.{Bool, true, false, not, Option, Some, None, codes}
use Rattle.swc_ecma_codegen_tree.specs.Links.{TsTypeAnnBox, TsTypeParamDeclBox, TsTypeParamInstantiationBox}
use Rattle.swc_ecma_codegen_grammar.specs.Phrases.{Phrase, Nothing, ◌>◌, where_, mark}
use Rattle.swc_ecma_codegen_grammar.specs.declared.roles.Role.{Role}
use Rattle.swc_ecma_codegen_grammar.specs.declared.roles.Role.TheVariants.{Annotation, TypeArguments, TypeParameters}

-- `?` of `[a]?: A`
unfoldable pub question : Bool → Phrase
question true = mark (codes "?")
question false = Nothing

-- `: A` of `a: A`
unfoldable pub annotation : {X : Type 0} → (X → Role → Phrase) → Option (TsTypeAnnBox X) → Phrase
annotation f None = Nothing
annotation f (Some n) = mark (codes ":") > f n.node.value Annotation

-- `!` of `a!: A`
unfoldable pub bang : Bool → Phrase
bang true = mark (codes "!")
bang false = Nothing

-- `!: A` of a field: one that is said to have a value has a type
unfoldable pub field_annotation : {X : Type 0} → (X → Role → Phrase) → Bool → Option (TsTypeAnnBox X) → Phrase
field_annotation f definite None = where_ (not definite) Nothing
field_annotation f definite (Some n) = bang definite > mark (codes ":") > f n.node.value Annotation

-- `<A>` of `f<A>()`
unfoldable pub type_args : {X : Type 0} → (X → Role → Phrase) → Option (TsTypeParamInstantiationBox X) → Phrase
type_args f None = Nothing
type_args f (Some n) = f n.node.value TypeArguments

-- `<A>` of `function f<A>() {}`
unfoldable pub type_params : {X : Type 0} → (X → Role → Phrase) → Option (TsTypeParamDeclBox X) → Phrase
type_params f None = Nothing
type_params f (Some n) = f n.node.value TypeParameters
