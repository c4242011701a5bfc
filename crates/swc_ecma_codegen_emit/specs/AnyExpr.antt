-- What is written of an expression, by its variant.
use Rattle.std.specs.Prelude.{Bool, true, false, ◌&&◌, if◌then◌else◌, codes}
use Rattle.swc_ecma_codegen_common.specs.declared.positions.Span.{Span}
use Rattle.swc_ecma_codegen_tree.specs.declared.exprs.Expr.{Expr}
use Rattle.swc_ecma_codegen_tree.specs.declared.exprs.Expr.TheVariants as exprs
use Rattle.swc_ecma_codegen_spans.specs.Spans.{expr_span}
use Rattle.swc_ecma_codegen_grammar.specs.TreePhrases.{is_sequence}
use Rattle.swc_ecma_codegen_tokens.specs.Run.{Part}
use Rattle.swc_ecma_codegen_tokens.specs.Words.{punct, trailing_comments}
use Rattle.swc_ecma_codegen_emit.specs.declared.nodes.Context.{Context}
use Rattle.swc_ecma_codegen_emit.specs.declared.nodes.Context.TheVariants.{Plain, LeftOperand, FieldValue}
use Rattle.swc_ecma_codegen_emit.specs.Places.{Place, Whole}
use Rattle.swc_ecma_codegen_emit.specs.Answers.{Answers, place_of}
use Rattle.swc_ecma_codegen_emit.specs.FunctionExprs.{fn_expr, arrow_expr}
use Rattle.swc_ecma_codegen_emit.specs.ClassExprs.{class_expr}
use Rattle.swc_ecma_codegen_emit.specs.Templates.{tagged_tpl}
use Rattle.swc_ecma_codegen_emit.specs.Calls.{array_lit, call_expr, keeps_arguments, new_expr}
use Rattle.swc_ecma_codegen_emit.specs.Props.{object_lit}
use Rattle.swc_ecma_codegen_emit.specs.Exprs.{this, unary, update, bin, assign, member, super_prop_expr, choice, seq, ident, yield_expr, meta_prop_expr, await_expr, paren, private_name, opt_chain}
use Rattle.swc_ecma_codegen_emit.specs.Jsx.{jsx_member_expr, jsx_namespaced_name}
use Rattle.swc_ecma_codegen_emit.specs.Lists.{unsupported}
use Rattle.swc_ecma_codegen_emit.specs.Lits.{lit_at, is_number_object}
use Rattle.swc_ecma_codegen_emit.specs.TsExprs.{ts_as_expr, ts_const_assertion, ts_satisfies_expr, ts_non_null_expr, ts_type_assertion, ts_instantiation}

unfoldable pub expr_parts : {X : Type 0} → (X → Answers) → (X → Place → Part) → Expr X → Context → Part
expr_parts asks items (exprs.This n) context rest = this n rest
expr_parts asks items (exprs.Object n) context rest = object_lit asks items n rest
expr_parts asks items (exprs.Fn n) context rest = fn_expr asks items n Plain rest
expr_parts asks items (exprs.Array n) context rest = array_lit asks items n rest
expr_parts asks items (exprs.Unary n) context rest = unary asks items n rest
expr_parts asks items (exprs.Update n) context rest = update items n rest
expr_parts asks items (exprs.Bin n) context rest = bin asks items n context rest
expr_parts asks items (exprs.Assign n) context rest = assign items n rest
expr_parts asks items (exprs.Member n) context rest = member items n rest
expr_parts asks items (exprs.SuperProp n) context rest = super_prop_expr items n rest
expr_parts asks items (exprs.Cond n) context rest = choice items n rest
expr_parts asks items (exprs.Call n) context rest = call_expr asks items n rest
expr_parts asks items (exprs.New n) context rest = new_expr asks items (keeps_arguments context) n rest
expr_parts asks items (exprs.Seq n) context rest = seq items n rest
expr_parts asks items (exprs.Ident n) context rest = ident n rest
expr_parts asks items (exprs.Lit n) context rest = lit_at n context rest
expr_parts asks items (exprs.Tpl n) context rest = items n.node.value (Whole Plain) rest
expr_parts asks items (exprs.TaggedTpl n) context rest = tagged_tpl items n rest
expr_parts asks items (exprs.Arrow n) context rest = arrow_expr asks items n.value rest
expr_parts asks items (exprs.Class n) context rest = class_expr asks items n rest
expr_parts asks items (exprs.Yield n) context rest = yield_expr asks items n rest
expr_parts asks items (exprs.MetaProp n) context rest = meta_prop_expr n rest
expr_parts asks items (exprs.Await n) context rest = await_expr items n rest
expr_parts asks items (exprs.Paren n) context rest = paren items n rest
expr_parts asks items (exprs.PrivateName n) context rest = private_name n rest
expr_parts asks items (exprs.OptChain n) context rest = opt_chain items n rest
expr_parts asks items (exprs.JSXMember n) context rest = jsx_member_expr items n rest
expr_parts asks items (exprs.JSXNamespacedName n) context rest = jsx_namespaced_name n rest
expr_parts asks items (exprs.JSXEmpty n) context rest = rest
expr_parts asks items (exprs.JSXElement n) context rest = items n.node.value (Whole Plain) rest
expr_parts asks items (exprs.JSXFragment n) context rest = items n.node.value (Whole Plain) rest
expr_parts asks items (exprs.TsAs n) context rest = ts_as_expr items n rest
expr_parts asks items (exprs.TsConstAssertion n) context rest = ts_const_assertion items n rest
expr_parts asks items (exprs.TsSatisfies n) context rest = ts_satisfies_expr items n rest
expr_parts asks items (exprs.TsNonNull n) context rest = ts_non_null_expr items n rest
expr_parts asks items (exprs.TsTypeAssertion n) context rest = ts_type_assertion items n rest
expr_parts asks items (exprs.TsInstantiation n) context rest = ts_instantiation items n rest
expr_parts asks items (exprs.Invalid n) context rest = unsupported rest

unfoldable pub is_left_operand : Context → Bool
is_left_operand LeftOperand = true
is_left_operand context = false

-- Its comments are left where they are: those of an inner left operand, and of a number that is an object.
unfoldable pub leaves_comments : {X : Type 0} → Expr X → Context → Bool
leaves_comments (exprs.Bin n) context = is_left_operand context
leaves_comments (exprs.Lit n) context = is_number_object n context
leaves_comments n context = false

-- the comments after an expression
unfoldable pub expr_closed : Bool → Span → Part
expr_closed left span rest = if left then rest else trailing_comments true span.hi rest

unfoldable pub expr : {X : Type 0} → (X → Answers) → (X → Place → Part) → Expr X → Context → Part
expr asks items n context rest = expr_parts asks items n context (expr_closed (leaves_comments n context) (expr_span (place_of asks) n) rest)

unfoldable pub is_field_value : Context → Bool
is_field_value FieldValue = true
is_field_value context = false

-- a sequence stands in parentheses where it is the value of a field
unfoldable pub is_wrapped : {X : Type 0} → Expr X → Context → Bool
is_wrapped n context = is_sequence n && is_field_value context

-- `(a, b)`
unfoldable pub wrapped : {X : Type 0} → (X → Answers) → (X → Place → Part) → Expr X → Part
wrapped asks items n rest = punct (codes "(") (expr asks items n Plain (punct (codes ")") rest))

-- an expression where it stands
unfoldable pub placed_expr : {X : Type 0} → (X → Answers) → (X → Place → Part) → Expr X → Context → Part
placed_expr asks items n context rest = if is_wrapped n context then wrapped asks items n rest else expr asks items n context rest
