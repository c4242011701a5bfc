-- The tokens of names.
use Rattle.std.specs.Prelude.{if◌then◌else◌, codes, string_bytes}
use Rattle.swc_ecma_codegen_tree.specs.declared.idents.Ident.{Ident}
use Rattle.swc_ecma_codegen_tree.specs.declared.idents.IdentName.{IdentName}
use Rattle.swc_ecma_codegen_tree.specs.declared.idents.BindingIdent.{BindingIdent}
use Rattle.swc_ecma_codegen_tree.specs.declared.idents.PrivateName.{PrivateName}
use Rattle.swc_ecma_codegen_grammar.specs.Phrases.{Phrase, Nothing, NameOf, PrivateOf, ◌>◌, mark}
use Rattle.swc_ecma_codegen_grammar.specs.AnnotationPhrases.{annotation}
use Rattle.swc_ecma_codegen_grammar.specs.declared.roles.Role.{Role}

-- Identifier, or BindingIdentifier of TypeScript with `?` after it
unfoldable pub ident : Ident → Phrase
ident n = NameOf n.span.lo (string_bytes n.sym) > (if n.optional then mark (codes "?") else Nothing)

-- IdentifierName
unfoldable pub ident_name : IdentName → Phrase
ident_name n = NameOf n.span.lo (string_bytes n.sym)

-- BindingIdentifier, with a type as in `a: T` or without
unfoldable pub binding_ident : {X : Type 0} → (X → Role → Phrase) → BindingIdent X → Phrase
binding_ident f n = ident n.id > annotation f n.type_ann

-- PrivateIdentifier: `#a`
unfoldable pub private_name : PrivateName → Phrase
private_name n = PrivateOf (string_bytes n.name)
