-- What is written of classes is what they read as.
use Rattle.std.proofs.Common.{ℕ, Bool, true, false, cond, ◌||◌, is_none, List, [], ◌∷◌, map, codes, Option, Some, None, refl}
use Rattle.swc_ecma_codegen_common.specs.declared.positions.Span.{Span}
use Rattle.swc_ecma_codegen_tree.specs.Links.{BlockStmtBox, ClassMemberBox, ExprBox, FunctionBox, TsTypeParamInstantiationBox}
use Rattle.swc_ecma_codegen_tree.specs.declared.classes.Accessibility.{Accessibility}
use Rattle.swc_ecma_codegen_tree.specs.declared.classes.Accessibility.TheVariants.{Public, Protected, Private}
use Rattle.swc_ecma_codegen_tree.specs.declared.classes.Class as class_nodes
use Rattle.swc_ecma_codegen_tree.specs.declared.classes.ClassMember as class_members
use Rattle.swc_ecma_codegen_tree.specs.declared.classes.ClassMember.TheVariants as members
use Rattle.swc_ecma_codegen_tree.specs.declared.classes.Constructor.{Constructor}
use Rattle.swc_ecma_codegen_tree.specs.declared.classes.ParamOrTsParamProp.{ParamOrTsParamProp}
use Rattle.swc_ecma_codegen_tree.specs.declared.classes.ParamOrTsParamProp.TheVariants as params
use Rattle.swc_ecma_codegen_tree.specs.declared.classes.TsParamProp.{TsParamProp}
use Rattle.swc_ecma_codegen_tree.specs.declared.classes.TsParamPropParam.{TsParamPropParam}
use Rattle.swc_ecma_codegen_tree.specs.declared.classes.TsParamPropParam.TheVariants as param_props
use Rattle.swc_ecma_codegen_tree.specs.declared.classes.ClassMethod.{ClassMethod}
use Rattle.swc_ecma_codegen_tree.specs.declared.classes.MethodKind.{MethodKind}
use Rattle.swc_ecma_codegen_tree.specs.declared.classes.MethodKind.TheVariants.{Method, Getter, Setter}
use Rattle.swc_ecma_codegen_tree.specs.declared.classes.ClassProp.{ClassProp}
use Rattle.swc_ecma_codegen_tree.specs.declared.classes.PrivateMethod.{PrivateMethod}
use Rattle.swc_ecma_codegen_tree.specs.declared.classes.PrivateProp.{PrivateProp}
use Rattle.swc_ecma_codegen_tree.specs.declared.classes.AutoAccessor.{AutoAccessor}
use Rattle.swc_ecma_codegen_tree.specs.declared.classes.Key.{Key}
use Rattle.swc_ecma_codegen_tree.specs.declared.classes.Key.TheVariants as keys
use Rattle.swc_ecma_codegen_tree.specs.declared.classes.StaticBlock.{StaticBlock}
use Rattle.swc_ecma_codegen_tree.specs.declared.decls.ClassDecl.{ClassDecl}
use Rattle.swc_ecma_codegen_tree.specs.declared.stmts.EmptyStmt.{EmptyStmt}
use Rattle.swc_ecma_codegen_tree.specs.declared.ts_decls.TsExprWithTypeArgs.{TsExprWithTypeArgs}
use Rattle.swc_ecma_codegen_grammar.specs.ClassPhrases as lists
use Rattle.swc_ecma_codegen_grammar.specs.FunctionPhrases.{word_if}
use Rattle.swc_ecma_codegen_grammar.specs.FunctionPhrases as function_lists
use Rattle.swc_ecma_codegen_grammar.specs.TsDeclPhrases as decl_lists
use Rattle.swc_ecma_codegen_grammar.specs.Phrases as phrases
use Rattle.swc_ecma_codegen_grammar.specs.Phrases.{Phrase, ◌>◌, mark, word}
use Rattle.swc_ecma_codegen_grammar.specs.declared.roles.Role.TheVariants.{ClassHead as HeadOfClass, ClassWord, ClassTail, Member, MethodHead as HeadOfMethod, MethodDecorators as DecoratorsOfMethod, MethodTail as TailOfMethod, AccessorTail as TailOfAccessor, FieldValue as ValueOfField}
use Rattle.swc_ecma_codegen_tokens.specs.Run.{Env, Part}
use Rattle.swc_ecma_codegen_tokens.specs.Words.{keyword, punct, space, last_of}
use Rattle.swc_ecma_codegen_tokens.specs.Written.{IsWord}
use Rattle.swc_ecma_codegen_tokens.proofs.Listing.ListLaws.{IsUndelimited, prints_list, prints_in_order, prints_bracketed_in_order}
use Rattle.swc_ecma_codegen_tokens.proofs.Reading.Phrased.{Prints, PrintsAt, prints_wider, loosened, joined_then, then, after, before, prints_nothing, prints_where, prints_keyword, prints_punct, prints_semi}
use Rattle.swc_ecma_codegen_tokens.proofs.Reading.Printed.{makes_wider, writes_nothing, writes_space, writes_formatting_space, writes_position, writes_position_before}
use Rattle.swc_ecma_codegen_tokens.proofs.Commenting.CommentPrints.{writes_leading}
use Rattle.swc_ecma_codegen_tokens.proofs.Filling.Shapes.{open_, ended_if_any, closed, loose, joining_if_any, ended}
use Rattle.swc_ecma_codegen_emit.specs.declared.nodes.Context.TheVariants.{Plain}
use Rattle.swc_ecma_codegen_emit.specs.declared.nodes.Piece.TheVariants.{MethodHead, DeclarationTail, StaticHead, MethodTail}
use Rattle.swc_ecma_codegen_emit.specs.Classes as words
use Rattle.swc_ecma_codegen_emit.specs.Classes.{implemented_format}
use Rattle.swc_ecma_codegen_emit.specs.TsDecls.{extended_place, ts_expr_with_type_args}
use Rattle.swc_ecma_codegen_emit.specs.Annotations.{word_before}
use Rattle.swc_ecma_codegen_emit.specs.Places.{Place, Whole, Only, behind_key}
use Rattle.swc_ecma_codegen_emit.specs.FunctionExprs.{comma_list_format}
use Rattle.swc_ecma_codegen_emit.specs.Functions.{decorators_format, decorator, decorator_lines, decorator_place}
use Rattle.swc_ecma_codegen_emit.proofs.AnnotationParts.{field_annotation_prints, question_prints, type_args_print, type_params_print, word_before_prints, word_space_prints}
use Rattle.swc_ecma_codegen_emit.proofs.ExprParts.{ident_prints, private_name_prints, writes_blank}
use Rattle.swc_ecma_codegen_emit.proofs.FunctionParts.{decorator_prints, decorators_print, param_prints, undelimited}
use Rattle.swc_ecma_codegen_emit.proofs.TsDeclParts.{declare_prints, expr_with_type_args_prints}
use Rattle.swc_ecma_codegen_emit.proofs.TsMemberParts.{index_signature_prints}
use Rattle.swc_ecma_codegen_emit.proofs.TsExprWords as expr_words
use Rattle.swc_ecma_codegen_emit.proofs.TypeWords as type_words
use Rattle.swc_ecma_codegen_emit.proofs.Linked.{Linked, expr_at, prop_name_at, block_at}
use Rattle.swc_ecma_codegen_emit.proofs.MarkWords as marks
use Rattle.swc_ecma_codegen_emit.proofs.NameParts.{binding_ident_prints}
use Rattle.swc_ecma_codegen_emit.proofs.PatParts.{assign_pat_prints, initializer_prints}

-- ---- classes

heritage_prints : {X : Type 0} (l : Linked X) (n : Option (ExprBox X)) (args : Option (TsTypeParamInstantiationBox X)) → PrintsAt open_ l.env (words.heritage l.asks l.items n args) (lists.heritage l.reads n args)
unfolding words.heritage lists.heritage
heritage_prints l None args = prints_where (is_none args) (λ h. prints_nothing)
heritage_prints l (Some n) args =
    prints_wider open_ refl
    (after (writes_space l.env)
    (then (prints_keyword l.env None (codes "extends") marks.extends_word)
    (after (writes_blank l.env (l.asks n.node.value).starts) (then (expr_at l n Plain) (type_args_print l Plain args)))))

member_at : {X : Type 0} (l : Linked X) (n : ClassMemberBox X) → PrintsAt loose l.env (l.items n.node.value (Whole Plain)) (l.reads n.node.value Member)
member_at l n = l.law n.node.value (Whole Plain) Member

members_undelimited : IsUndelimited words.class_members_format
members_undelimited = record { no_comma = refl; no_bar = refl; no_ampersand = refl }

closing_prints : {X : Type 0} (env : Env) (n : class_nodes.Class X) → Prints env (λ rest. last_of n.span (punct (codes "}") rest)) (mark (codes "}"))
closing_prints env n = after (writes_position_before env n.span.hi) (prints_punct env (codes "}") marks.right_brace)

braced_prints : {X : Type 0} (l : Linked X) (n : class_nodes.Class X) → Prints l.env (λ rest. punct (codes "{") (words.member_list l.asks l.items n (last_of n.span (punct (codes "}") rest)))) (mark (codes "{") > phrases.in_order (map (lists.member_at l.reads) n.body.items) > mark (codes "}"))
braced_prints l n =
    prints_bracketed_in_order l.env (codes "{") marks.left_brace (λ rest. rest) (makes_wider loose refl (writes_nothing l.env)) words.class_members_format n.span (λ m. (l.asks m.node.value).place) (λ m. l.items m.node.value (Whole Plain)) (lists.member_at l.reads) (mark (codes "}")) (λ rest. last_of n.span (punct (codes "}") rest))
    (member_at l) members_undelimited (closing_prints l.env n) n.body.items

implements_print : {X : Type 0} (l : Linked X) (span : Span) (ns : List (TsExprWithTypeArgs X)) → PrintsAt ended_if_any l.env (words.implements_clause l.items span ns) (lists.implements_clause l.reads ns)
unfolding words.implements_clause words.some_implements lists.implements_clause
implements_print l span [] = prints_wider ended_if_any refl prints_nothing
implements_print l span (n ∷ ns) =
    prints_wider ended_if_any refl
    (after (writes_space l.env)
    (then (word_space_prints l.env (codes "implements") expr_words.implements_word)
    (prints_list l.env implemented_format span extended_place (ts_expr_with_type_args l.items) (decl_lists.ts_expr_with_type_args l.reads) (λ m. loosened (expr_with_type_args_prints l m)) refl refl refl refl (n ∷ ns))))

pub class_tail_prints : {X : Type 0} (l : Linked X) (n : class_nodes.Class X) → Prints l.env (words.class_tail l.asks l.items n) (lists.class_tail l.reads n)
unfolding words.class_tail words.class_body lists.class_tail
class_tail_prints l n =
    then (type_params_print l n.type_params)
    (then (heritage_prints l n.super_class n.super_type_params)
    (then (implements_print l n.span n.implements.items) (after (writes_formatting_space l.env) (braced_prints l n))))

pub class_word_prints : {X : Type 0} (l : Linked X) (n : class_nodes.Class X) → Prints l.env (words.class_word n) (lists.class_word n)
unfolding words.class_word lists.class_word
class_word_prints l n = then (word_before_prints l.env n.is_abstract (codes "abstract") type_words.abstract_word) (prints_keyword l.env None (codes "class") marks.class_word)

pub class_head_prints : {X : Type 0} (l : Linked X) (n : class_nodes.Class X) → PrintsAt ended_if_any l.env (decorator_lines l.items n.decorators.items) (lists.class_head l.reads n)
unfolding lists.class_head
class_head_prints l n = decorators_print l n.decorators.items

pub class_decl_prints : {X : Type 0} (l : Linked X) (n : ClassDecl X) → Prints l.env (words.class_decl l.asks l.items n) (lists.class_decl l.reads n)
unfolding words.class_decl lists.class_decl
class_decl_prints l n =
    after (writes_leading l.env (l.asks n.class.node.value).place.lo)
    (after (writes_position l.env (l.asks n.class.node.value).place.lo)
    (then (declare_prints l.env n.declare)
    (then (l.law n.class.node.value (Whole Plain) HeadOfClass)
    (then (l.law n.class.node.value (Whole Plain) ClassWord)
    (after (writes_space l.env) (then (ident_prints l n.ident) (l.law n.class.node.value (Whole Plain) ClassTail)))))))

-- ---- members

accessibility_is_word : (a : Accessibility) → IsWord (lists.accessibility_of a)
unfolding lists.accessibility_of
accessibility_is_word Public = expr_words.public_word
accessibility_is_word Protected = expr_words.protected_word
accessibility_is_word Private = expr_words.private_word

accessibility_prints : (env : Env) (a : Option Accessibility) → PrintsAt open_ env (words.accessibility_word a) (lists.accessibility a)
unfolding words.accessibility_word lists.accessibility
accessibility_prints env None = prints_nothing
accessibility_prints env (Some a) = prints_wider open_ refl (word_space_prints env (lists.accessibility_of a) (accessibility_is_word a))

no_word_prints : (env : Env) (t : List ℕ) → PrintsAt open_ env (λ rest. rest) (word_if false (word t))
unfolding word_if
no_word_prints env t = prints_nothing

abstract_prints : (env : Env) (wanted : Bool) → PrintsAt open_ env (word_before wanted (codes "abstract")) (word_if wanted (word (codes "abstract")))
abstract_prints env wanted = word_before_prints env wanted (codes "abstract") type_words.abstract_word

override_prints : (env : Env) (wanted : Bool) → PrintsAt open_ env (word_before wanted (codes "override")) (word_if wanted (word (codes "override")))
override_prints env wanted = word_before_prints env wanted (codes "override") expr_words.override_word

readonly_prints : (env : Env) (wanted : Bool) → PrintsAt open_ env (word_before wanted (codes "readonly")) (word_if wanted (word (codes "readonly")))
readonly_prints env wanted = word_before_prints env wanted (codes "readonly") type_words.readonly_word

param_prop_param_prints : {X : Type 0} (l : Linked X) (n : TsParamPropParam X) → Prints l.env (words.ts_param_prop_param l.items n) (lists.ts_param_prop_param l.reads n)
unfolding words.ts_param_prop_param lists.ts_param_prop_param
param_prop_param_prints l (param_props.Ident n) = after (writes_leading l.env n.id.span.lo) (binding_ident_prints l n)
param_prop_param_prints l (param_props.Assign n) = after (writes_leading l.env n.span.lo) (assign_pat_prints l n)

param_prop_prints : {X : Type 0} (l : Linked X) (n : TsParamProp X) → PrintsAt closed l.env (words.ts_param_prop l.items n) (lists.ts_param_prop l.reads n)
unfolding words.ts_param_prop lists.ts_param_prop
param_prop_prints l n =
    prints_wider closed refl
    (after (writes_leading l.env n.span.lo)
    (then (accessibility_prints l.env n.accessibility)
    (then (decorators_print l n.decorators.items)
    (then (override_prints l.env n.is_override) (then (readonly_prints l.env n.readonly) (param_prop_param_prints l n.param))))))

constructor_param_prints : {X : Type 0} (l : Linked X) (n : ParamOrTsParamProp X) → PrintsAt closed l.env (words.constructor_param l.asks l.items n) (lists.constructor_param l.reads n)
unfolding words.constructor_param lists.constructor_param
constructor_param_prints l (params.Param n) = param_prints l n
constructor_param_prints l (params.TsParamProp n) = param_prop_prints l n

constructor_body_prints : {X : Type 0} (l : Linked X) (body : Option (BlockStmtBox X)) → PrintsAt ended l.env (words.constructor_body l.items body) (function_lists.function_body l.reads body)
unfolding words.constructor_body function_lists.function_body
constructor_body_prints l None = prints_semi l.env
constructor_body_prints l (Some n) = prints_wider ended refl (block_at l n Plain)

constructor_prints : {X : Type 0} (l : Linked X) (n : Constructor X) → PrintsAt ended l.env (words.class_constructor l.asks l.items n) (lists.class_constructor l.reads n)
unfolding words.class_constructor words.constructor_word words.constructor_tail lists.class_constructor
constructor_prints l n =
    after (writes_leading l.env n.span.lo)
    (after (writes_position l.env n.span.lo)
    (then (accessibility_prints l.env n.accessibility)
    (then (prints_keyword l.env None (codes "constructor") marks.constructor_word)
    (then (prints_punct l.env (codes "(") marks.left_parenthesis)
    (then (prints_list l.env comma_list_format n.span words.constructor_param_place (words.constructor_param l.asks l.items) (lists.constructor_param l.reads) (λ p. prints_wider loose refl (constructor_param_prints l p)) refl refl refl refl n.params.items)
    (then (prints_punct l.env (codes ")") marks.right_parenthesis) (constructor_body_prints l n.body)))))))

static_prints : (env : Env) (wanted : Bool) → PrintsAt open_ env (words.static_word wanted) (word_if wanted (word (codes "static")))
unfolding words.static_word word_if
static_prints env true = prints_wider open_ refl (before (prints_keyword env None (codes "static") marks.static_word) (writes_space env))
static_prints env false = prints_nothing

get_prints : (env : Env) (starts : Bool) → Prints env (words.accessor_word (codes "get") starts) (word (codes "get"))
unfolding words.accessor_word
get_prints env starts = before (prints_keyword env None (codes "get") marks.get_word) (writes_blank env starts)

set_prints : (env : Env) (starts : Bool) → Prints env (words.accessor_word (codes "set") starts) (word (codes "set"))
unfolding words.accessor_word
set_prints env starts = before (prints_keyword env None (codes "set") marks.set_word) (writes_blank env starts)

-- `async *` behind `static`, where another word stands between or none
static_method_prints : {X : Type 0} (l : Linked X) (n : ClassMethod X) (is_abstract is_override : Bool) → PrintsAt joining_if_any l.env (λ rest. keyword None (codes "static") (cond (is_abstract || is_override) (space (words.method_modifiers is_abstract is_override (l.items n.function.node.value (Only MethodHead) rest))) (l.items n.function.node.value (Only (StaticHead (l.asks n.key.node.value).starts)) rest))) (word (codes "static") > word_if is_abstract (word (codes "abstract")) > word_if is_override (word (codes "override")) > l.reads n.function.node.value HeadOfMethod)
unfolding words.method_modifiers
static_method_prints l n true is_override = prints_wider joining_if_any refl (then (word_space_prints l.env (codes "static") marks.static_word) (then (abstract_prints l.env true) (then (override_prints l.env is_override) (l.law n.function.node.value (Whole Plain) HeadOfMethod))))
static_method_prints l n false true = prints_wider joining_if_any refl (then (word_space_prints l.env (codes "static") marks.static_word) (then (abstract_prints l.env false) (then (override_prints l.env true) (l.law n.function.node.value (Whole Plain) HeadOfMethod))))
static_method_prints l n false false = prints_wider joining_if_any refl (then (prints_keyword l.env None (codes "static") marks.static_word) (then (no_word_prints l.env (codes "abstract")) (then (no_word_prints l.env (codes "override")) (l.law n.function.node.value (Only (StaticHead (l.asks n.key.node.value).starts)) HeadOfMethod))))

word_prints : {X : Type 0} (l : Linked X) (n : ClassMethod X) (is_static : Bool) → PrintsAt joining_if_any l.env (λ rest. cond is_static (keyword None (codes "static") (words.static_method l.asks l.items n rest)) (words.method_modifiers n.is_abstract n.is_override (l.items n.function.node.value (Only MethodHead) rest))) (word_if is_static (word (codes "static")) > word_if n.is_abstract (word (codes "abstract")) > word_if n.is_override (word (codes "override")) > l.reads n.function.node.value HeadOfMethod)
unfolding word_if words.static_method words.method_modifiers
word_prints l n true = static_method_prints l n n.is_abstract n.is_override
word_prints l n false = prints_wider joining_if_any refl (then prints_nothing (then (abstract_prints l.env n.is_abstract) (then (override_prints l.env n.is_override) (l.law n.function.node.value (Whole Plain) HeadOfMethod))))

-- `static abstract override get`
words_then : (env : Env) (is_static is_abstract is_override : Bool) {p : Part} {f : Phrase} → PrintsAt joining_if_any env p f → PrintsAt joining_if_any env (λ rest. words.static_word is_static (words.method_modifiers is_abstract is_override (p rest))) (word_if is_static (word (codes "static")) > word_if is_abstract (word (codes "abstract")) > word_if is_override (word (codes "override")) > f)
unfolding words.method_modifiers
words_then env is_static is_abstract is_override h = prints_wider joining_if_any refl (then (static_prints env is_static) (then (abstract_prints env is_abstract) (then (override_prints env is_override) h)))

kind_prints : {X : Type 0} (l : Linked X) (n : ClassMethod X) (kind : MethodKind) → PrintsAt joining_if_any l.env (words.method_kind l.asks l.items kind n) (lists.method_kind l.reads n.is_static n.is_abstract n.is_override kind n.function)
unfolding words.method_kind words.method_word words.accessor_words lists.method_kind lists.kind_head
kind_prints l n Method = word_prints l n n.is_static
kind_prints l n Getter = words_then l.env n.is_static n.is_abstract n.is_override (prints_wider joining_if_any refl (get_prints l.env (l.asks n.key.node.value).starts))
kind_prints l n Setter = words_then l.env n.is_static n.is_abstract n.is_override (prints_wider joining_if_any refl (set_prints l.env (l.asks n.key.node.value).starts))

tail_prints : {X : Type 0} (l : Linked X) (n : FunctionBox X) (place : Place) (kind : MethodKind) → PrintsAt ended l.env (l.items n.node.value (behind_key place)) (l.reads n.node.value (lists.tail_role kind))
unfolding lists.tail_role
tail_prints l n place Method = l.law n.node.value place TailOfMethod
tail_prints l n place Getter = l.law n.node.value place TailOfAccessor
tail_prints l n place Setter = l.law n.node.value place TailOfAccessor

method_prints : {X : Type 0} (l : Linked X) (n : ClassMethod X) → PrintsAt ended l.env (words.class_method l.asks l.items n) (lists.class_method l.reads n)
unfolding words.class_method words.method_rest lists.class_method
method_prints l n =
    after (writes_leading l.env n.span.lo)
    (after (writes_leading l.env (l.asks n.key.node.value).place.lo)
    (after (writes_position l.env n.span.lo)
    (then (l.law n.function.node.value (Whole Plain) DecoratorsOfMethod)
    (then (accessibility_prints l.env n.accessibility)
    (then (kind_prints l n n.kind)
    (then (prop_name_at l n.key) (then (question_prints l.env n.is_optional) (tail_prints l n.function (Only MethodTail) n.kind))))))))

private_kind_prints : {X : Type 0} (l : Linked X) (n : PrivateMethod X) (kind : MethodKind) → PrintsAt joining_if_any l.env (words.private_kind l.items kind n) (lists.kind_head l.reads kind n.function)
unfolding words.private_kind lists.kind_head
private_kind_prints l n Method = l.law n.function.node.value (Whole Plain) HeadOfMethod
private_kind_prints l n Getter = prints_wider joining_if_any refl (get_prints l.env true)
private_kind_prints l n Setter = prints_wider joining_if_any refl (set_prints l.env true)

private_words_print : {X : Type 0} (l : Linked X) (n : PrivateMethod X) → PrintsAt joining_if_any l.env (λ rest. words.private_words n (words.private_kind l.items n.kind n rest)) (lists.method_kind l.reads n.is_static n.is_abstract n.is_override n.kind n.function)
unfolding words.private_words lists.method_kind
private_words_print l n = words_then l.env n.is_static n.is_abstract n.is_override (private_kind_prints l n n.kind)

private_method_prints : {X : Type 0} (l : Linked X) (n : PrivateMethod X) → PrintsAt ended l.env (words.private_method l.items n) (lists.private_method l.reads n)
unfolding words.private_method words.private_rest lists.private_method
private_method_prints l n =
    after (writes_leading l.env n.span.lo)
    (after (writes_position l.env n.span.lo)
    (then (l.law n.function.node.value (Whole Plain) DecoratorsOfMethod)
    (then (accessibility_prints l.env n.accessibility)
    (then (private_words_print l n)
    (then (private_name_prints l n.key) (then (question_prints l.env n.is_optional) (tail_prints l n.function (Only DeclarationTail) n.kind)))))))

value_prints : {X : Type 0} (l : Linked X) (n : Option (ExprBox X)) → PrintsAt open_ l.env (words.prop_value l.items n) (lists.prop_value l.reads n)
unfolding words.prop_value lists.prop_value
value_prints l None = prints_nothing
value_prints l (Some n) =
    prints_wider open_ refl
    (after (writes_formatting_space l.env)
    (then (prints_punct l.env (codes "=") marks.equal)
    (after (writes_formatting_space l.env) (l.law n.node.value (Whole Plain) ValueOfField))))

prop_modifiers_print : {X : Type 0} (env : Env) (n : ClassProp X) → PrintsAt open_ env (words.prop_modifiers n) (lists.prop_modifiers n)
unfolding words.prop_modifiers lists.prop_modifiers
prop_modifiers_print env n =
    prints_wider open_ refl
    (then (declare_prints env n.declare)
    (then (accessibility_prints env n.accessibility)
    (then (static_prints env n.is_static)
    (then (abstract_prints env n.is_abstract) (then (override_prints env n.is_override) (readonly_prints env n.readonly))))))

prop_prints : {X : Type 0} (l : Linked X) (n : ClassProp X) → PrintsAt ended l.env (words.class_prop l.items n) (lists.class_prop l.reads n)
unfolding words.class_prop words.prop_tail lists.class_prop
prop_prints l n =
    after (writes_leading l.env n.span.lo)
    (after (writes_position l.env n.span.lo)
    (then (decorators_print l n.decorators.items)
    (then (prop_modifiers_print l.env n)
    (then (prop_name_at l n.key)
    (then (question_prints l.env n.is_optional)
    (then (field_annotation_prints l n.definite n.type_ann)
    (then (value_prints l n.value) (before (prints_semi l.env) (writes_position l.env n.span.hi)))))))))

private_modifiers_print : {X : Type 0} (env : Env) (n : PrivateProp X) → PrintsAt open_ env (words.private_modifiers n) (lists.private_modifiers n)
unfolding words.private_modifiers lists.private_modifiers
private_modifiers_print env n =
    prints_wider open_ refl
    (then (accessibility_prints env n.accessibility)
    (then (static_prints env n.is_static) (then (override_prints env n.is_override) (readonly_prints env n.readonly))))

private_prop_prints : {X : Type 0} (l : Linked X) (n : PrivateProp X) → PrintsAt loose l.env (words.private_prop l.items n) (lists.private_prop l.reads n)
unfolding words.private_prop words.private_prop_tail lists.private_prop lists.decorators
private_prop_prints l n =
    after (writes_leading l.env n.span.lo)
    (after (writes_position l.env n.span.lo)
    (then (prints_in_order l.env decorators_format n.span decorator_place (decorator l.items) (function_lists.decorator l.reads) (λ d. prints_wider loose refl (decorator_prints l d)) undelimited refl n.decorators.items)
    (then (private_modifiers_print l.env n)
    (then (private_name_prints l n.key)
    (then (question_prints l.env n.is_optional)
    (then (field_annotation_prints l n.definite n.type_ann)
    (then (value_prints l n.value) (before (prints_semi l.env) (writes_position l.env n.span.hi)))))))))

key_prints : {X : Type 0} (l : Linked X) (n : Key X) → Prints l.env (words.accessor_key l.items n) (lists.accessor_key l.reads n)
unfolding words.accessor_key lists.accessor_key
key_prints l (keys.Public n) = prop_name_at l n
key_prints l (keys.Private n) = private_name_prints l n

accessor_modifiers_print : {X : Type 0} (env : Env) (n : AutoAccessor X) → PrintsAt open_ env (words.accessor_modifiers n) (lists.accessor_modifiers n)
unfolding words.accessor_modifiers lists.accessor_modifiers
accessor_modifiers_print env n =
    prints_wider open_ refl
    (then (accessibility_prints env n.accessibility)
    (then (static_prints env n.is_static) (then (abstract_prints env n.is_abstract) (override_prints env n.is_override))))

accessor_prints : {X : Type 0} (l : Linked X) (n : AutoAccessor X) → PrintsAt loose l.env (words.auto_accessor l.items n) (lists.auto_accessor l.reads n)
unfolding words.auto_accessor words.accessor_tail lists.auto_accessor lists.decorators
accessor_prints l n =
    then (prints_in_order l.env decorators_format n.span decorator_place (decorator l.items) (function_lists.decorator l.reads) (λ d. prints_wider loose refl (decorator_prints l d)) undelimited refl n.decorators.items)
    (then (accessor_modifiers_print l.env n)
    (joined_then l.env None (codes "accessor") marks.accessor_word
    (after (writes_space l.env)
    (then (key_prints l n.key)
    (then (field_annotation_prints l n.definite n.type_ann) (then (initializer_prints l n.value) (prints_semi l.env)))))))

static_block_prints : {X : Type 0} (l : Linked X) (n : StaticBlock X) → Prints l.env (words.static_block l.items n) (lists.static_block l.reads n)
unfolding words.static_block lists.static_block
static_block_prints l n =
    after (writes_leading l.env n.span.lo)
    (after (writes_position l.env n.span.lo)
    (then (prints_keyword l.env None (codes "static") marks.static_word) (before (block_at l n.body Plain) (writes_position l.env n.span.hi))))

empty_prints : (env : Env) (n : EmptyStmt) → PrintsAt ended env (words.empty_member n) (mark (codes ";"))
unfolding words.empty_member
empty_prints env n = after (writes_leading env n.span.lo) (prints_punct env (codes ";") marks.semicolon)

pub class_member_prints : {X : Type 0} (l : Linked X) (n : class_members.ClassMember X) → PrintsAt loose l.env (words.class_member l.asks l.items n) (lists.class_member l.reads n)
unfolding words.class_member words.index_member lists.class_member
class_member_prints l (members.Constructor n) = prints_wider loose refl (constructor_prints l n)
class_member_prints l (members.Method n) = prints_wider loose refl (method_prints l n)
class_member_prints l (members.PrivateMethod n) = prints_wider loose refl (private_method_prints l n)
class_member_prints l (members.ClassProp n) = prints_wider loose refl (prop_prints l n)
class_member_prints l (members.PrivateProp n) = private_prop_prints l n
class_member_prints l (members.Empty n) = prints_wider loose refl (empty_prints l.env n)
class_member_prints l (members.StaticBlock n) = prints_wider loose refl (static_block_prints l n)
class_member_prints l (members.AutoAccessor n) = accessor_prints l n
class_member_prints l (members.TsIndexSignature n) = prints_wider loose refl (then (index_signature_prints l n) (prints_semi l.env))
