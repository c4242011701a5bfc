-- What is written of programs is what it reads as.
use Rattle.std.proofs.Common.{Bool, true, false, not, is_some, List, [], ◌∷◌, string_bytes, refl, inl, inr, Option, Some, None}
use Rattle.std.specs.declared.string.String.{String}
use Rattle.std.proofs.lemmas.Bool.{cases_Bool}
use Rattle.std.proofs.lemmas.Str.{IsUtf8-string_bytes}
use Rattle.swc_ecma_codegen_common.specs.declared.positions.Span.{Span}
use Rattle.swc_ecma_codegen_tree.specs.declared.programs.Module.{Module}
use Rattle.swc_ecma_codegen_tree.specs.declared.programs.Script.{Script}
use Rattle.swc_ecma_codegen_grammar.specs.Phrases.{Phrase, ◌>◌}
use Rattle.swc_ecma_codegen_grammar.specs.Tokens.{Token}
use Rattle.swc_ecma_codegen_grammar.specs.StmtPhrases as lists
use Rattle.swc_ecma_codegen_tokens.specs.Literals.{hashbang}
use Rattle.swc_ecma_codegen_tokens.specs.Run.{Env, Part, at_maps}
use Rattle.swc_ecma_codegen_tokens.specs.Words.{commit_pending_semi, trailing_comments}
use Rattle.swc_ecma_codegen_tokens.proofs.Reading.Phrased.{then, after, before, prints_nothing, PrintsAt, prints_wider}
use Rattle.swc_ecma_codegen_tokens.proofs.Reading.Printed.{writes_then, writes_same, writes_nothing, writes_commit, writes_position, Fills, MakesAt}
use Rattle.swc_ecma_codegen_tokens.proofs.Commenting.CommentPrints.{writes_leading, writes_trailing}
use Rattle.swc_ecma_codegen_emit.specs.Modules.{module_item}
use Rattle.swc_ecma_codegen_emit.specs.Stmts as words
use Rattle.swc_ecma_codegen_emit.proofs.ModuleParts.{module_item_prints}
use Rattle.swc_ecma_codegen_emit.proofs.StmtParts.{stmt_prints}
use Rattle.swc_ecma_codegen_emit.specs.Programs as programs
use Rattle.swc_ecma_codegen_emit.proofs.Asked.{kept_same, committed_same}
use Rattle.swc_ecma_codegen_emit.proofs.Linked.{Linked}
use Rattle.swc_ecma_codegen_emit.proofs.ListParts.{in_order_prints}
use Rattle.swc_ecma_codegen_tokens.proofs.Filling.Shapes.{Shape, loose, loose_at}
use Rattle.swc_ecma_codegen_tokens.proofs.Commenting.HashbangPrints.{prints_hashbang, placed_makes}

writes_last_semi : (env : Env) → Fills env programs.last_semi
writes_last_semi env = elim (cases_Bool env.config.omit_last_semi) [
  | inl left ↦ writes_same env programs.last_semi (λ rest. rest) [] (λ maps rest. kept_same rest (at_maps maps env) left) (writes_nothing env)
  | inr wanted ↦ writes_same env programs.last_semi commit_pending_semi [] (λ maps rest. committed_same rest (at_maps maps env) wanted) (writes_commit env)
]

writes_start_if_empty : {A : Type 0} (env : Env) (xs : List A) (span : Span) → Fills env (programs.start_if_empty xs span)
unfolding programs.start_if_empty
writes_start_if_empty env [] span = writes_position env span.lo
writes_start_if_empty env (x ∷ xs) span = writes_nothing env

-- wherever a part may stand, it may behind that
started_makes : {A : Type 0} {i : Shape} (env : Env) (xs : List A) (span : Span) (p : Part) (ts : List Token) {a : Bool} → MakesAt i env p ts a → MakesAt i env (λ rest. programs.start_if_empty xs span (p rest)) ts a
unfolding programs.start_if_empty
started_makes env [] span p ts h = placed_makes env span.lo p ts h
started_makes env (x ∷ xs) span p ts h = h

writes_program_end : (env : Env) (span : Span) → Fills env (λ rest. trailing_comments true span.hi (programs.last_semi rest))
writes_program_end env span = writes_then env (trailing_comments true span.hi) programs.last_semi [] [] (writes_trailing env true span.hi) (writes_last_semi env)

-- behind a hashbang, or without one
pub opened_prints : {A Z : Type 0} (env : Env) (shebang : Option (String Z)) (xs : List A) (span : Span) {p : Part} {f : Phrase} → PrintsAt loose env p f → PrintsAt (loose_at (not (is_some shebang))) env (λ rest. programs.program_start shebang xs span (p rest)) (lists.shebang shebang > f)
unfolding programs.program_start lists.shebang
opened_prints env None xs span h = then prints_nothing (after (writes_leading env span.lo) (after (writes_start_if_empty env xs span) h))
opened_prints env (Some text) xs span h =
    prints_wider (loose_at false) refl
    (then (prints_hashbang env (string_bytes text) _ (IsUtf8-string_bytes text) (λ made. started_makes env xs span (hashbang (string_bytes text)) _ made)) (after (writes_leading env span.lo) h))

pub script_prints : {X : Type 0} (l : Linked X) (n : Script X) → PrintsAt (loose_at (not (is_some n.shebang))) l.env (programs.script_parts l.asks l.items n) (lists.script l.reads n)
unfolding programs.script_parts lists.script
script_prints l n =
    opened_prints l.env n.shebang n.body.items n.span
    (before (prints_wider loose refl (in_order_prints l.env (words.stmt l.asks l.items) (lists.stmt l.reads) (stmt_prints l) n.body.items)) (writes_program_end l.env n.span))

pub module_prints : {X : Type 0} (l : Linked X) (n : Module X) → PrintsAt (loose_at (not (is_some n.shebang))) l.env (programs.module_parts l.asks l.items n) (lists.whole_module l.reads n)
unfolding programs.module_parts lists.whole_module
module_prints l n =
    opened_prints l.env n.shebang n.body.items n.span
    (before (prints_wider loose refl (in_order_prints l.env (module_item l.asks l.items) (lists.module_item l.reads) (module_item_prints l) n.body.items)) (writes_program_end l.env n.span))
