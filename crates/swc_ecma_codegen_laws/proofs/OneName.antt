-- The only parameter of an arrow function that has no parentheses is a name alone.
use Rattle.std.proofs.Common.{◌≡◌, Bool, true, false, ◌&&◌, ◌||◌, is_some, if◌then◌else◌, List, [], ◌∷◌, ℕ, map, Option, Some, None, refl, sym, ap, ◌∙◌, subst, string_bytes}
use Rattle.std.proofs.lemmas.Bool.{and_parts, true≢false}
use Rattle.swc_ecma_codegen_common.specs.declared.positions.BytePos.{BytePos}
use Rattle.swc_ecma_codegen_common.specs.declared.positions.Span.{Span}
use Rattle.swc_ecma_codegen_spans.specs.Spans.{pat_span}
use Rattle.swc_ecma_codegen_tree.specs.Links.{PatBox, TsTypeAnnBox}
use Rattle.swc_ecma_codegen_tree.specs.declared.idents.BindingIdent.{BindingIdent}
use Rattle.swc_ecma_codegen_tree.specs.declared.links.AnyNode.{AnyNode, AnyNode-F, out-AnyNode}
use Rattle.swc_ecma_codegen_tree.specs.declared.links.AnyNode.TheOpen as nodes
use Rattle.swc_ecma_codegen_tree.specs.declared.parts.ExprPart.TheVariants as expr_parts
use Rattle.swc_ecma_codegen_tree.specs.declared.pats.Pat.TheVariants as pats
use Rattle.swc_ecma_codegen_tokens.specs.Lists.{ListChild}
use Rattle.swc_ecma_codegen_tokens.specs.Run.{Part, Plan}
use Rattle.swc_ecma_codegen_tokens.specs.Words.{name, trailing_comments}
use Rattle.swc_ecma_codegen_emit.specs.declared.nodes.Context.TheVariants.{Plain}
use Rattle.swc_ecma_codegen_emit.specs.Places.{Whole}
use Rattle.swc_ecma_codegen_emit.specs.declared.patterns.PatternKind.TheVariants.{Name, PlainName}
use Rattle.swc_ecma_codegen_emit.specs.Annotations.{annotation}
use Rattle.swc_ecma_codegen_emit.specs.Answers.{any_answers, place_of}
use Rattle.swc_ecma_codegen_emit.specs.Exprs.{ident}
use Rattle.swc_ecma_codegen_emit.specs.FunctionExprs.{is_only, is_plain}
use Rattle.swc_ecma_codegen_emit.specs.Lists.{child_of}
use Rattle.swc_ecma_codegen_emit.specs.Names.{binding_ident}
use Rattle.swc_ecma_codegen_emit.specs.Parts.{expr_part}
use Rattle.swc_ecma_codegen_emit.specs.Pats.{pat, pat_parts}
use Rattle.swc_ecma_codegen_emit.specs.Patterns.{any_pattern, name_kind, node_pattern, part_pattern, pat_kind}
use Rattle.swc_ecma_codegen_emit.specs.Tree.{any_items, node_items}
use Rattle.swc_ecma_codegen_emit.proofs.MappedNodes.{any_items_of}

-- a name, with the comments behind it
pub record IsOneName (part : Part) : Type 0 where
  pub span : Span
  pub sym : List ℕ
  pub behind : BytePos
  pub is_name : (rest : Plan) → part rest ≡ name span sym false (trailing_comments true behind rest)

-- the only child of a list
pub record HoldsOneName (cs : List ListChild) : Type 0 where
  pub place : Span
  pub part : Part
  pub only : cs ≡ record { place = place; part = part } ∷ []
  pub one : IsOneName part

name_by : (n : BindingIdent AnyNode) (optional : Bool) (ann : Option (TsTypeAnnBox AnyNode)) → n.id.optional ≡ optional → n.type_ann ≡ ann → is_plain (if optional || is_some ann then Name else PlainName) ≡ true → IsOneName (pat any_answers any_items (pats.Ident n))
unfolding is_plain pat pat_parts binding_ident ident annotation
name_by n true ann d e h = absurd (true≢false (sym h))
name_by n false (Some t) d e h = absurd (true≢false (sym h))
name_by n false None d e h = record {
  span = n.id.span;
  sym = string_bytes n.id.sym;
  behind = (pat_span (place_of any_answers) (pats.Ident n)).hi;
  is_name = λ rest.
      let more : Plan = trailing_comments true (pat_span (place_of any_answers) (pats.Ident n)).hi rest in
      ap (λ z. name n.id.span (string_bytes n.id.sym) z (annotation any_items n.type_ann more)) d ∙ ap (λ z. name n.id.span (string_bytes n.id.sym) false (annotation any_items z more)) e;
}

node_name : (n : AnyNode-F AnyNode) → is_plain (node_pattern n) ≡ true → IsOneName (node_items any_answers any_items n (Whole Plain))
unfolding is_plain node_pattern part_pattern pat_kind name_kind node_items expr_part
node_name (nodes.ExprPart (expr_parts.Pat (pats.Ident n))) h = name_by n n.id.optional n.type_ann refl refl h
node_name (nodes.ExprPart (expr_parts.Pat (pats.Array n))) h = absurd (true≢false (sym h))
node_name (nodes.ExprPart (expr_parts.Pat (pats.Rest n))) h = absurd (true≢false (sym h))
node_name (nodes.ExprPart (expr_parts.Pat (pats.Object n))) h = absurd (true≢false (sym h))
node_name (nodes.ExprPart (expr_parts.Pat n)) h = absurd (true≢false (sym h))
node_name (nodes.ExprPart n) h = absurd (true≢false (sym h))
node_name n h = absurd (true≢false (sym h))

pub plain_name : (n : AnyNode) → is_plain (any_pattern n) ≡ true → IsOneName (any_items n (Whole Plain))
unfolding any_pattern
plain_name n h = subst (λ (z : Part). IsOneName z) (sym (any_items_of n (Whole Plain))) (node_name (out-AnyNode n) h)

-- as an arrow function asks it of its parameters
pub only_name : {X : Type 0} (node : X → AnyNode) (ps : List (PatBox X)) → is_only is_plain (λ x. any_answers (node x)) ps ≡ true → HoldsOneName (map (child_of (λ (p : PatBox X). (any_answers (node p.node.value)).place) (λ p place. any_items (node p.node.value) place)) ps)
unfolding is_only any_answers
only_name node [] h = absurd (true≢false (sym h))
only_name node (p ∷ []) h = record { place = (any_answers (node p.node.value)).place; part = any_items (node p.node.value) (Whole Plain); only = refl; one = plain_name (node p.node.value) h }
only_name node (p ∷ q ∷ ps) h = absurd (true≢false (sym h))

-- the second of three that hold
pub middle : (a b c : Bool) → (a && (b && c)) ≡ true → b ≡ true
middle a b c h = (and_parts b c (and_parts a (b && c) h).1).0
