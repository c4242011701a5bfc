-- What is written of functions and classes in expressions is what it reads as.
use Rattle.std.proofs.Common.{◌≡◌, not, ℕ, ◌+◌, arith, refl, sym, subst, Bool, true, false, cond, ◌&&◌, List, [], ◌∷◌, map, codes, string_bytes, Option, Some, None, inl, inr}
use Rattle.std.proofs.lemmas.Bool.{cases_Bool}
use Rattle.swc_ecma_codegen_common.specs.declared.positions.Span.{Span}
use Rattle.swc_ecma_codegen_tree.specs.Links.{PatBox, TsTypeAnnBox}
use Rattle.swc_ecma_codegen_tree.specs.declared.exprs.ClassExpr.{ClassExpr}
use Rattle.swc_ecma_codegen_tree.specs.declared.exprs.FnExpr.{FnExpr}
use Rattle.swc_ecma_codegen_tree.specs.declared.exprs.ArrowExpr.{ArrowExpr}
use Rattle.swc_ecma_codegen_tree.specs.declared.exprs.BlockStmtOrExpr.{BlockStmtOrExpr}
use Rattle.swc_ecma_codegen_tree.specs.declared.exprs.BlockStmtOrExpr.TheVariants as bodies
use Rattle.swc_ecma_codegen_tree.specs.declared.idents.Ident.{Ident}
use Rattle.swc_ecma_codegen_grammar.specs.declared.kinds.Kind.TheVariants.{Punctuator}
use Rattle.swc_ecma_codegen_grammar.specs.declared.roles.Role.TheVariants.{Annotation, Pattern, PlainParameter, Function, FunctionHead, ClassHead, ClassWord, ClassTail}
use Rattle.swc_ecma_codegen_grammar.specs.Tokens as lexical
use Rattle.swc_ecma_codegen_grammar.specs.Tokens.{token_of}
use Rattle.swc_ecma_codegen_grammar.specs.Phrases.{Phrase, Never, OptionalParentheses, Parameter, ◌>◌, mark, is_possible}
use Rattle.swc_ecma_codegen_grammar.specs.Phrases as phrases
use Rattle.swc_ecma_codegen_grammar.specs.AnnotationPhrases.{annotation}
use Rattle.swc_ecma_codegen_grammar.specs.NamePhrases as names
use Rattle.swc_ecma_codegen_grammar.specs.PatPhrases as pats
use Rattle.swc_ecma_codegen_grammar.specs.ClassPhrases as classes
use Rattle.swc_ecma_codegen_grammar.specs.FunctionPhrases as lists
use Rattle.swc_ecma_codegen_grammar.specs.FunctionPhrases.{is_never}
use Rattle.swc_ecma_codegen_tokens.specs.Run.{Env, Part, at_maps, spelling, no_part}
use Rattle.swc_ecma_codegen_tokens.specs.Lists.{ListChild, list, deeper}
use Rattle.swc_ecma_codegen_tokens.specs.Words.{by_maps, punct, space, formatting_space}
use Rattle.swc_ecma_codegen_tokens.specs.Written.{IsMark}
use Rattle.swc_ecma_codegen_tokens.proofs.Reading.Choices.{parentheses_among, prints_by_test, prints_small_parameter, prints_wide_parameter}
use Rattle.swc_ecma_codegen_tokens.proofs.Emission.Emitting.{minified_same, pretty_same}
use Rattle.swc_ecma_codegen_tokens.proofs.Listing.ListLaws.{children_of, prints_list, prints_one_child}
use Rattle.swc_ecma_codegen_tokens.proofs.Reading.Phrased.{Prints, prints_by_maps, then, after, before, prints_nothing, prints_same, prints_punct, prints_ident, mark_spelled, PrintsAt, prints_wider, loosened, joined_then, joined_mark, prints_joined_punct, prints_regrouped}
use Rattle.swc_ecma_codegen_tokens.proofs.Reading.Printed.{with_room, within_then, deeper_within, writes_same, writes_if, writes_nothing, writes_space, writes_formatting_space, writes_commit, writes_position, writes_shallower, Fills, joined_punct_within, punct_shape}
use Rattle.swc_ecma_codegen_tokens.proofs.Commenting.CommentPrints.{writes_leading}
use Rattle.swc_ecma_codegen_emit.specs.declared.nodes.Context.TheVariants.{Plain, Body, DefaultExport}
use Rattle.swc_ecma_codegen_emit.specs.declared.nodes.Piece.TheVariants.{DeclarationTail}
use Rattle.swc_ecma_codegen_emit.specs.Places.{Whole, Only}
use Rattle.swc_ecma_codegen_emit.specs.ClassExprs as class_words
use Rattle.swc_ecma_codegen_emit.specs.FunctionExprs as words
use Rattle.swc_ecma_codegen_emit.specs.Commented.{has_comment_after}
use Rattle.swc_ecma_codegen_grammar.specs.CommentMaps.{Maps}
use Rattle.swc_ecma_codegen_grammar.specs.Comments.{no_maps}
use Rattle.swc_ecma_codegen_emit.specs.FunctionExprs.{comma_list_format}
use Rattle.swc_ecma_codegen_emit.proofs.Impossible.{prints_impossible, never_impossible}
use Rattle.swc_ecma_codegen_emit.proofs.AnnotationParts.{type_params_print}
use Rattle.swc_ecma_codegen_emit.proofs.Linked.{Linked, expr_at, pat_at, block_at}
use Rattle.swc_ecma_codegen_emit.proofs.MarkWords as marks
use Rattle.swc_ecma_codegen_tokens.proofs.Filling.Shapes.{open_, loose, ended, joined}
use Rattle.swc_ecma_codegen_text_writer.specs.Sheet.{is_ending}

pub star_prints : (env : Env) (wanted : Bool) → PrintsAt open_ env (words.star wanted) (lists.word_if wanted (mark (codes "*")))
unfolding words.star lists.word_if
star_prints env true = prints_wider open_ refl (prints_punct env (codes "*") marks.star)
star_prints env false = prints_nothing

pub name_prints : {X : Type 0} (l : Linked X) (n : Option Ident) → PrintsAt open_ l.env (words.optional_name n) (lists.optional_name n)
unfolding words.optional_name lists.optional_name names.ident
name_prints l None = prints_nothing
name_prints l (Some n) = prints_wider open_ refl (after (writes_space l.env) (prints_ident l.env n.span (string_bytes n.sym) n.optional l.leaves_out))

pub fn_expr_prints : {X : Type 0} (l : Linked X) (n : FnExpr X) → Prints l.env (words.fn_expr l.asks l.items n Plain) (lists.fn_expr l.reads n)
unfolding words.fn_expr lists.fn_expr
fn_expr_prints l n =
    after (writes_leading l.env (l.asks n.function.node.value).place.lo)
    (after (writes_commit l.env)
    (after (writes_position l.env (l.asks n.function.node.value).place.lo)
    (then (l.law n.function.node.value (Whole Plain) FunctionHead)
    (then (name_prints l n.ident) (l.law n.function.node.value (Whole Plain) Function)))))

-- one that is exported by default is declared
pub default_fn_prints : {X : Type 0} (l : Linked X) (n : FnExpr X) → PrintsAt ended l.env (words.fn_expr l.asks l.items n DefaultExport) (lists.fn_expr l.reads n)
unfolding words.fn_expr lists.fn_expr
default_fn_prints l n =
    after (writes_leading l.env (l.asks n.function.node.value).place.lo)
    (after (writes_commit l.env)
    (after (writes_position l.env (l.asks n.function.node.value).place.lo)
    (then (l.law n.function.node.value (Whole Plain) FunctionHead)
    (then (name_prints l n.ident) (l.law n.function.node.value (Only DeclarationTail) Function)))))

-- ---- arrow functions

async_arrow_then : (env : Env) (wanted named : Bool) {p : Part} {f : Phrase} → Prints env p f → Prints env (λ rest. words.async_arrow wanted named (p rest)) (lists.after_async wanted f)
unfolding words.async_arrow lists.after_async
async_arrow_then env true named h = joined_then env None (codes "async") marks.async_word (after (writes_if env named space formatting_space [] (writes_space env) (writes_formatting_space env)) h)
async_arrow_then env false named h = h

-- a parenthesis beside what isn't a name alone, and in a text that isn't minified
pub other_parenthesis : (env : Env) (t : List ℕ) → IsMark t → PrintsAt (punct_shape t) env (words.parenthesis false t) (mark t)
unfolding words.parenthesis
other_parenthesis env t w = prints_punct env t w

wide_parenthesis : (env : Env) (t : List ℕ) → IsMark t → env.config.minify ≡ false → PrintsAt (punct_shape t) env (words.parenthesis true t) (mark t)
unfolding words.parenthesis
wide_parenthesis env t w wide = prints_same (words.parenthesis true t) (punct t) (λ maps rest. pretty_same no_part (punct t) rest (at_maps maps env) wide) (prints_punct env t w)

no_parenthesis : (env : Env) (t : List ℕ) → env.config.minify ≡ true → Fills env (words.parenthesis true t)
unfolding words.parenthesis no_part
no_parenthesis env t small = writes_same env (words.parenthesis true t) (λ rest. rest) [] (λ maps rest. minified_same no_part (punct t) rest (at_maps maps env) small) (writes_nothing env)

abbrev params_list : {X : Type 0} → Linked X → Span → List (PatBox X) → Part
params_list l span ns = list comma_list_format span (children_of (λ p. (l.asks p.node.value).place) (λ p. l.items p.node.value (Whole Plain)) ns)

params_list_prints : {X : Type 0} (l : Linked X) (span : Span) (ns : List (PatBox X)) → PrintsAt loose l.env (params_list l span ns) (phrases.listed (codes ",") (map (pats.pat_at l.reads) ns))
params_list_prints l span ns = prints_list l.env comma_list_format span (λ p. (l.asks p.node.value).place) (λ p. l.items p.node.value (Whole Plain)) (pats.pat_at l.reads) (λ n. loosened (pat_at l n)) refl refl refl refl ns

params_prints : {X : Type 0} (l : Linked X) (span : Span) (ns : List (PatBox X)) → Prints l.env (λ rest. words.parenthesis false (codes "(") (params_list l span ns (words.parenthesis false (codes ")") rest))) (mark (codes "(") > phrases.listed (codes ",") (map (pats.pat_at l.reads) ns) > mark (codes ")"))
params_prints l span ns =
    then (other_parenthesis l.env (codes "(") marks.left_parenthesis)
    (then (params_list_prints l span ns) (other_parenthesis l.env (codes ")") marks.right_parenthesis))

only_list_prints : {X : Type 0} (l : Linked X) (span : Span) (n : PatBox X) → Prints l.env (params_list l span (n ∷ [])) (pats.pat_at l.reads n)
only_list_prints l span n = prints_one_child l.env comma_list_format span (λ p. (l.asks p.node.value).place) (λ p. l.items p.node.value (Whole Plain)) n (pat_at l n) refl refl refl refl refl

abbrev only_part : {X : Type 0} → Linked X → Bool → Span → PatBox X → Part
only_part l plain span n rest = words.parenthesis plain (codes "(") (params_list l span (n ∷ []) (words.parenthesis plain (codes ")") rest))

-- `(a)`, and minified `a`
plain_prints : {X : Type 0} (l : Linked X) (span : Span) (n : PatBox X) → Prints l.env (only_part l true span n) (OptionalParentheses Parameter (pats.pat_at l.reads n))
plain_prints l span n = elim (cases_Bool l.env.config.minify) [
  | inl small ↦ prints_small_parameter small (after (no_parenthesis l.env (codes "(") small) (before (only_list_prints l span n) (no_parenthesis l.env (codes ")") small)))
  | inr wide ↦ prints_wide_parameter wide (then (wide_parenthesis l.env (codes "(") marks.left_parenthesis wide) (then (only_list_prints l span n) (wide_parenthesis l.env (codes ")") marks.right_parenthesis wide)))
]

-- where the pattern is none, no tree is written so
plain_or_never : {X : Type 0} (l : Linked X) (span : Span) (n : PatBox X) (never : Bool) → is_never (pats.pat_at l.reads n) ≡ never → Prints l.env (only_part l true span n) (cond never (mark (codes "(") > pats.pat_at l.reads n > mark (codes ")")) (OptionalParentheses Parameter (pats.pat_at l.reads n)))
unfolding is_possible
plain_or_never l span n true h = prints_impossible (Rattle.std.proofs.Common.ap (λ b. true && (b && true)) (never_impossible (pats.pat_at l.reads n) h))
plain_or_never l span n false h = plain_prints l span n

only_prints : {X : Type 0} (l : Linked X) (span : Span) (n : PatBox X) (plain : Bool) → l.reads n.node.value PlainParameter ≡ cond plain (l.reads n.node.value Pattern) Never → Prints l.env (only_part l plain span n) (lists.only_parameter l.reads n)
unfolding lists.only_parameter is_never
only_prints l span n true e =
    let P : Phrase → Type 0 = λ z. Prints l.env (only_part l true span n) (cond (is_never z) (mark (codes "(") > pats.pat_at l.reads n > mark (codes ")")) (OptionalParentheses Parameter (pats.pat_at l.reads n))) in
    subst P (sym e) (plain_or_never l span n (is_never (pats.pat_at l.reads n)) refl)
only_prints l span n false e =
    let P : Phrase → Type 0 = λ z. Prints l.env (only_part l false span n) (cond (is_never z) (mark (codes "(") > pats.pat_at l.reads n > mark (codes ")")) (OptionalParentheses Parameter (pats.pat_at l.reads n))) in
    subst P (sym e) (then (other_parenthesis l.env (codes "(") marks.left_parenthesis) (then (only_list_prints l span n) (other_parenthesis l.env (codes ")") marks.right_parenthesis)))

abbrev only_child : {X : Type 0} → Linked X → PatBox X → List ListChild
only_child l n = children_of (λ p. (l.asks p.node.value).place) (λ p. l.items p.node.value (Whole Plain)) (n ∷ [])

abbrev commented_part : {X : Type 0} → Linked X → Bool → Span → PatBox X → Bool → Part
commented_part l plain span n behind = words.arrow_within (plain && not behind) span (only_child l n)

none_behind : (span : Span) → has_comment_after span no_maps ≡ false
unfolding has_comment_after
none_behind span = refl

-- in parentheses where a comment stands behind it, and minified too
kept_or_never : {X : Type 0} (l : Linked X) (span : Span) (n : PatBox X) (never : Bool) → is_never (pats.pat_at l.reads n) ≡ never →
    Prints l.env (by_maps (λ maps. commented_part l true span n (has_comment_after (l.asks n.node.value).place maps))) (cond never (mark (codes "(") > pats.pat_at l.reads n > mark (codes ")")) (OptionalParentheses Parameter (pats.pat_at l.reads n)))
unfolding words.arrow_within is_possible
kept_or_never l span n true h = prints_impossible (Rattle.std.proofs.Common.ap (λ b. true && (b && true)) (never_impossible (pats.pat_at l.reads n) h))
kept_or_never l span n false h =
    prints_by_test (commented_part l true span n) (has_comment_after (l.asks n.node.value).place) (none_behind (l.asks n.node.value).place) (parentheses_among l.env.config Parameter (pats.pat_at l.reads n))
    (then (other_parenthesis l.env (codes "(") marks.left_parenthesis) (then (only_list_prints l span n) (other_parenthesis l.env (codes ")") marks.right_parenthesis)))
    (plain_prints l span n)

only_commented : {X : Type 0} (l : Linked X) (span : Span) (n : PatBox X) (plain : Bool) → l.reads n.node.value PlainParameter ≡ cond plain (l.reads n.node.value Pattern) Never →
    Prints l.env (by_maps (λ maps. commented_part l plain span n (has_comment_after (l.asks n.node.value).place maps))) (lists.only_parameter l.reads n)
unfolding lists.only_parameter is_never words.arrow_within
only_commented l span n false e = prints_by_maps (λ maps. commented_part l false span n (has_comment_after (l.asks n.node.value).place maps)) (λ maps. only_prints l span n false e)
only_commented l span n true e =
    let P : Phrase → Type 0 = λ z. Prints l.env (by_maps (λ maps. commented_part l true span n (has_comment_after (l.asks n.node.value).place maps))) (cond (is_never z) (mark (codes "(") > pats.pat_at l.reads n > mark (codes ")")) (OptionalParentheses Parameter (pats.pat_at l.reads n))) in
    subst P (sym e) (kept_or_never l span n (is_never (pats.pat_at l.reads n)) refl)

abbrev params_part : {X : Type 0} → Linked X → Span → Bool → List (PatBox X) → Maps → Part
params_part l span typed ns maps = words.arrow_within (not typed && (words.is_only words.is_plain l.asks ns && not (words.has_comment_behind l.asks ns maps))) span (children_of (λ p. (l.asks p.node.value).place) (λ p. l.items p.node.value (Whole Plain)) ns)

arrow_params_prints : {X : Type 0} (l : Linked X) (span : Span) (typed : Bool) (ns : List (PatBox X)) → Prints l.env (by_maps (params_part l span typed ns)) (lists.arrow_parameters l.reads typed ns)
unfolding words.arrow_within words.is_only words.has_comment_behind lists.arrow_parameters
arrow_params_prints l span true [] = prints_by_maps (params_part l span true []) (λ maps. params_prints l span [])
arrow_params_prints l span true (n ∷ []) = prints_by_maps (params_part l span true (n ∷ [])) (λ maps. params_prints l span (n ∷ []))
arrow_params_prints l span true (n ∷ m ∷ ns) = prints_by_maps (params_part l span true (n ∷ m ∷ ns)) (λ maps. params_prints l span (n ∷ m ∷ ns))
arrow_params_prints l span false [] = prints_by_maps (params_part l span false []) (λ maps. params_prints l span [])
arrow_params_prints l span false (n ∷ []) = only_commented l span n (words.is_plain (l.asks n.node.value).pattern) (l.plain n.node.value)
arrow_params_prints l span false (n ∷ m ∷ ns) = prints_by_maps (params_part l span false (n ∷ m ∷ ns)) (λ maps. params_prints l span (n ∷ m ∷ ns))

arrow_result_prints : {X : Type 0} (l : Linked X) (n : Option (TsTypeAnnBox X)) → PrintsAt open_ l.env (words.arrow_result l.items n) (annotation l.reads n)
unfolding words.arrow_result annotation
arrow_result_prints l None = prints_nothing
arrow_result_prints l (Some n) =
    prints_wider open_ refl
    (then (before (prints_punct l.env (codes ":") marks.colon) (writes_formatting_space l.env))
    (before (l.law n.node.value (Whole Plain) Annotation) (writes_formatting_space l.env)))

arrow_ends_nothing : is_ending (codes "=>") ≡ false
unfolding is_ending
arrow_ends_nothing = refl

-- a level comes with the mark before it
arrow_deeper : (env : Env) → PrintsAt joined env (λ rest. punct (codes "=>") (deeper rest)) (phrases.same_line > mark (codes "=>"))
arrow_deeper env =
    let t : List ℕ = codes "=>" in
    let x : lexical.Token = token_of Punctuator (spelling Punctuator t) in
    joined_mark env (λ rest. punct t (deeper rest)) t
    (with_room (0 + 1) 2 (omega arith) (within_then env (punct t) deeper (lexical.same_line ∷ x ∷ []) [] (joined_punct_within env t refl arrow_ends_nothing (mark_spelled t marks.arrow) marks.arrow.ascii) (deeper_within env)))

arrow_body_prints : {X : Type 0} (l : Linked X) (n : BlockStmtOrExpr X) → PrintsAt joined l.env (λ rest. punct (codes "=>") (words.arrow_body l.items n rest)) (phrases.same_line > mark (codes "=>") > lists.arrow_body l.reads n)
unfolding words.arrow_body lists.arrow_body
arrow_body_prints l (bodies.BlockStmt n) = prints_regrouped (then (prints_joined_punct l.env (codes "=>") refl arrow_ends_nothing marks.arrow) (block_at l n Body))
arrow_body_prints l (bodies.Expr n) = prints_regrouped (then (arrow_deeper l.env) (before (expr_at l n Plain) (writes_shallower l.env)))

pub arrow_expr_prints : {X : Type 0} (l : Linked X) (n : ArrowExpr X) → Prints l.env (words.arrow_expr l.asks l.items n) (lists.arrow_expr l.reads n)
unfolding words.arrow_expr words.arrow_parameters lists.arrow_expr
arrow_expr_prints l n =
    after (writes_leading l.env n.span.lo)
    (after (writes_position l.env n.span.lo)
    (async_arrow_then l.env n.is_async (words.is_only words.is_name l.asks n.params.items)
    (then (star_prints l.env n.is_generator)
    (then (type_params_print l n.type_params)
    (then (arrow_params_prints l n.span (lists.is_typed_arrow n) n.params.items)
    (then (arrow_result_prints l n.return_type) (arrow_body_prints l n.body)))))))

-- ---- classes in expressions

pub class_expr_prints : {X : Type 0} (l : Linked X) (n : ClassExpr X) → Prints l.env (class_words.class_expr l.asks l.items n) (classes.class_expr l.reads n)
unfolding class_words.class_expr classes.class_expr
class_expr_prints l n =
    after (writes_leading l.env (l.asks n.class.node.value).place.lo)
    (after (writes_position l.env (l.asks n.class.node.value).place.lo)
    (then (l.law n.class.node.value (Whole Plain) ClassHead)
    (then (l.law n.class.node.value (Whole Plain) ClassWord) (then (name_prints l n.ident) (l.law n.class.node.value (Whole Plain) ClassTail)))))
