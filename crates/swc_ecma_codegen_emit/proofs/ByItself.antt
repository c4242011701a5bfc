-- What is written of a root by itself is what it reads as: at once, or of a module or script in lines of a greatest length.
use Rattle.std.proofs.Common.{◌≡◌, ◌⊎◌, ◌&&◌, ℕ, Bool, true, false, not, is_some, if◌then◌else◌, [], ◌∷◌, ◌++◌, refl, sym, ap, ◌∙◌, subst, inl, inr, Option, Some, None}
use Rattle.std.proofs.lemmas.Bool.{and_from, cases_Bool, true≢false}
use Rattle.swc_ecma_codegen_tree.specs.declared.links.AnyNode.{AnyNode}
use Rattle.swc_ecma_codegen_tree.specs.declared.programs.Program.TheVariants.{Module as a_module, Script as a_script}
use Rattle.swc_ecma_codegen_tree.specs.declared.programs.Module.{Module}
use Rattle.swc_ecma_codegen_tree.specs.declared.programs.Script.{Script}
use Rattle.swc_ecma_codegen_grammar.specs.Phrases.{Phrase, is_possible}
use Rattle.swc_ecma_codegen_grammar.specs.StmtPhrases as stmt_lists
use Rattle.swc_ecma_codegen_grammar.specs.TreePhrases.{phrase}
use Rattle.swc_ecma_codegen_grammar.specs.declared.roles.Role.{Role}
use Rattle.swc_ecma_codegen_grammar.specs.declared.roles.Role.TheVariants.{Function, Statement, VariableDeclaration, MethodHead, MethodDecorators, MethodTail, AccessorTail, ClassHead, Declaration, ExportedHead, ExportedTail, Member, ModuleDeclaration, Element, Child, TagObject, TypeArguments}
use Rattle.swc_ecma_codegen_tokens.specs.Run.{Env, Plan, Part, State, Plain as Call, done, after_step, is_bounded, nothing, put, run, step, steps_of, unbounded, with_max_line}
use Rattle.swc_ecma_codegen_tokens.specs.Targets.{is_out}
use Rattle.swc_ecma_codegen_tokens.specs.Words.{begin_lines, bounded, commit_pending_semi, end_lines, in_lines, trailing_comments}
use Rattle.swc_ecma_codegen_tokens.specs.Written.{Anything, holds_one}
use Rattle.swc_ecma_codegen_text_writer.specs.Sheet.{Commit, effect}
use Rattle.swc_ecma_codegen_tokens.proofs.Commenting.CommentPrints.{writes_trailing}
use Rattle.swc_ecma_codegen_tokens.proofs.Emission.Fronts.{run_append}
use Rattle.swc_ecma_codegen_emit.proofs.InLines.{InLines, settled_none}
use Rattle.swc_ecma_codegen_tokens.proofs.Filling.Lengths.{at_length, prints_at_length}
use Rattle.swc_ecma_codegen_tokens.proofs.Reading.Phrased.{before, prints_never, prints_same, prints_wider, steps_of_more, PrintsAt}
use Rattle.swc_ecma_codegen_tokens.proofs.Reading.Printed.{env_after}
use Rattle.swc_ecma_codegen_tokens.proofs.Filling.Shapes.{Shape, is_within, loose, loose_at, unbroken, unbroken_at}
use Rattle.swc_ecma_codegen_tokens.proofs.Jsx.TagPrints.{prints_spots}
use Rattle.swc_ecma_codegen_emit.specs.declared.nodes.Context.TheVariants.{ByItself, Plain}
use Rattle.swc_ecma_codegen_emit.specs.declared.nodes.Piece.TheVariants.{DeclarationTail}
use Rattle.swc_ecma_codegen_emit.specs.Calls.{keeps_arguments}
use Rattle.swc_ecma_codegen_emit.specs.Lined.{unfilled}
use Rattle.swc_ecma_codegen_emit.specs.Lists.{in_order}
use Rattle.swc_ecma_codegen_emit.specs.Modules.{module_item}
use Rattle.swc_ecma_codegen_emit.specs.Places.{Place, Whole, Only, alone, by_itself, context_of, placed, with_lines}
use Rattle.swc_ecma_codegen_emit.specs.Programs as programs
use Rattle.swc_ecma_codegen_emit.specs.Roots.{Root, OfExpr, OfStmt, OfItem, OfModule, OfScript, OfProgram, OfLink, root_at, root_items, read_alone, root_phrase, root_hashbang, is_program}
use Rattle.swc_ecma_codegen_emit.specs.Stmts.{stmt}
use Rattle.swc_ecma_codegen_emit.specs.Tree.{any_items}
use Rattle.swc_ecma_codegen_emit.proofs.AnyExprParts.{plain_expr_prints}
use Rattle.swc_ecma_codegen_emit.proofs.Asked.{committed_same}
use Rattle.swc_ecma_codegen_emit.proofs.Linked.{Linked, function_shape, role_shape}
use Rattle.swc_ecma_codegen_emit.proofs.ListParts.{in_order_prints}
use Rattle.swc_ecma_codegen_emit.proofs.ModuleParts.{module_item_prints}
use Rattle.swc_ecma_codegen_emit.proofs.ProgramParts.{module_prints, opened_prints, script_prints}
use Rattle.swc_ecma_codegen_emit.proofs.StmtParts.{stmt_prints}
use Rattle.swc_ecma_codegen_emit.proofs.TreeLaw.{prints, known}

-- ---- where a node stands by itself

plain_by : (b : Bool) (m : Option ℕ) → (is_some m && b) ≡ false → (if b then with_lines m else Whole Plain) ≡ Whole Plain
plain_by false m h = refl
plain_by true None h = refl
plain_by true (Some max) h = absurd (true≢false h)

pub alone_plain : (env : Env) → is_bounded env ≡ false → alone env ≡ Whole Plain
alone_plain env h = plain_by env.config.minify env.max_line h

lines_by : (b : Bool) (m : Option ℕ) → (is_some m && b) ≡ true → (max : ℕ) × ((if b then with_lines m else Whole Plain) ≡ Whole (ByItself max))
lines_by true (Some max) h = (max, refl)
lines_by false (Some max) h = absurd (true≢false (sym h))
lines_by b None h = absurd (true≢false (sym h))

pub alone_lines : (env : Env) → is_bounded env ≡ true → (max : ℕ) × (alone env ≡ Whole (ByItself max))
alone_lines env h = lines_by env.config.minify env.max_line h

or_by : (b : Bool) (m : Option ℕ) → ((if b then with_lines m else Whole Plain) ≡ Whole Plain) ⊎ ((max : ℕ) × ((if b then with_lines m else Whole Plain) ≡ Whole (ByItself max)))
or_by false m = inl refl
or_by true None = inl refl
or_by true (Some max) = inr (max, refl)

pub alone_or : (env : Env) → (alone env ≡ Whole Plain) ⊎ ((max : ℕ) × (alone env ≡ Whole (ByItself max)))
alone_or env = or_by env.config.minify env.max_line

-- at the greatest length that the settings tell
pub alone_at : (env : Env) (max : ℕ) → env.config.minify ≡ true → env.max_line ≡ Some max → alone env ≡ Whole (ByItself max)
alone_at env max h k = ap (λ b. if b then with_lines env.max_line else Whole Plain) h ∙ ap with_lines k

pub bounded_at : (env : Env) (max : ℕ) → env.config.minify ≡ true → env.max_line ≡ Some max → is_bounded env ≡ true
bounded_at env max h k = and_from (is_some env.max_line) env.config.minify (ap is_some k) h

-- that is no place of what is called
leaves_by : (b : Bool) (m : Option ℕ) → keeps_arguments (context_of (if b then with_lines m else Whole Plain)) ≡ false
leaves_by false m = refl
leaves_by true None = refl
leaves_by true (Some max) = refl

-- what is written by itself, at its place and with no lines around it
pub alone_prints : {i : Shape} {f : Phrase} (items : Place → Part) (env : Env) → PrintsAt i (at_length None env) (items (alone env)) f → PrintsAt i env (by_itself items) f
unfolding by_itself
alone_prints items env h = prints_same (by_itself items) (unbounded (items (alone env))) (λ maps rest. refl) (prints_at_length None env (items (alone env)) h)

-- the steps of one in lines
pub lines_alone : (items : Place → Part) (env : Env) (max : ℕ) → alone env ≡ Whole (ByItself max) → items (Whole (ByItself max)) ≡ bounded max (items (Whole Plain)) → (rest : Plan) → by_itself items rest env ≡ in_lines max (unfilled max items) rest env
unfolding by_itself bounded in_lines begin_lines end_lines with_max_line step after_step
lines_alone items env max here same rest =
    ap (λ z. with_max_line None (items z) rest env) here ∙ ap (λ z. with_max_line None z rest env) same

-- ---- roots that are no program

function_within : (place : Place) → is_within (function_shape place) unbroken ≡ true
function_within (Only DeclarationTail) = refl
function_within place = refl

role_within : (role : Role) (place : Place) → is_within (role_shape role place) unbroken ≡ true
role_within Statement place = refl
role_within VariableDeclaration place = refl
role_within MethodHead place = refl
role_within MethodDecorators place = refl
role_within MethodTail place = refl
role_within AccessorTail place = refl
role_within ClassHead place = refl
role_within Declaration place = refl
role_within ExportedHead place = refl
role_within ExportedTail place = refl
role_within Member place = refl
role_within ModuleDeclaration place = refl
role_within Function place = function_within place
role_within role place = refl

abbrev pub root_shape : Root → Shape
root_shape n = unbroken_at (not (root_hashbang n))

-- a child alone, or the object of a name, is read as nothing
link_prints : (env : Env) → env.keeps_invalid ≡ false → (n : AnyNode) (place : Place) (role : Role) → PrintsAt unbroken env (any_items n (placed role place)) (read_alone role (phrase n role))
link_prints env e n place Child = prints_never
link_prints env e n place TagObject = prints_never
link_prints env e n place Element = prints_wider unbroken refl (prints_spots Anything Anything refl refl (prints env e n place Element))
link_prints env e n place TypeArguments = prints_wider unbroken refl (prints_spots Anything Anything refl refl (prints env e n place TypeArguments))
link_prints env e n place role = prints_wider unbroken (role_within role place) (prints env e n place role)

abbrev none_of : Env → Env
none_of env = at_length None env

pub part_prints : (env : Env) → env.keeps_invalid ≡ false → (n : Root) → is_program n ≡ false → PrintsAt (root_shape n) env (root_items n) (root_phrase n)
part_prints env e (OfExpr n) h = alone_prints (root_at (OfExpr n)) env (prints_wider unbroken refl (plain_expr_prints (known (none_of env) e) n (context_of (alone env)) (leaves_by env.config.minify env.max_line)))
part_prints env e (OfStmt n) h = alone_prints (root_at (OfStmt n)) env (prints_wider unbroken refl (stmt_prints (known (none_of env) e) n))
part_prints env e (OfItem n) h = alone_prints (root_at (OfItem n)) env (prints_wider unbroken refl (module_item_prints (known (none_of env) e) n))
part_prints env e (OfLink n role) h = alone_prints (root_at (OfLink n role)) env (link_prints (none_of env) e n (alone env) role)
part_prints env e (OfModule n) h = absurd (true≢false h)
part_prints env e (OfScript n) h = absurd (true≢false h)
part_prints env e (OfProgram n) h = absurd (true≢false h)

-- ---- programs

-- a program stands anywhere, or only where nothing was written
loose_within : (anywhere : Bool) → is_within (loose_at anywhere) (unbroken_at anywhere) ≡ true
loose_within true = refl
loose_within false = refl

program_unbroken : {env : Env} {p : Part} {f : Phrase} (anywhere : Bool) → PrintsAt (loose_at anywhere) env p f → PrintsAt (unbroken_at anywhere) env p f
program_unbroken anywhere h = prints_wider (unbroken_at anywhere) (loose_within anywhere) h

-- without lines
pub plain_prints : (env : Env) → env.keeps_invalid ≡ false → (n : Root) → is_program n ≡ true → PrintsAt (root_shape n) env (root_at n (Whole Plain)) (root_phrase n)
unfolding programs.program programs.script programs.whole_module programs.has_hashbang stmt_lists.program
plain_prints env e (OfModule n) h = program_unbroken _ (module_prints (known env e) n)
plain_prints env e (OfScript n) h = program_unbroken _ (script_prints (known env e) n)
plain_prints env e (OfProgram (a_module n)) h = program_unbroken _ (module_prints (known env e) n)
plain_prints env e (OfProgram (a_script n)) h = program_unbroken _ (script_prints (known env e) n)
plain_prints env e (OfExpr n) h = absurd (true≢false (sym h))
plain_prints env e (OfStmt n) h = absurd (true≢false (sym h))
plain_prints env e (OfItem n) h = absurd (true≢false (sym h))
plain_prints env e (OfLink n role) h = absurd (true≢false (sym h))

pub program_lines : (n : Root) → is_program n ≡ true → (max : ℕ) → root_at n (Whole (ByItself max)) ≡ bounded max (root_at n (Whole Plain))
unfolding programs.program programs.script programs.whole_module
program_lines (OfModule n) h max = refl
program_lines (OfScript n) h max = refl
program_lines (OfProgram (a_module n)) h max = refl
program_lines (OfProgram (a_script n)) h max = refl
program_lines (OfExpr n) h max = absurd (true≢false (sym h))
program_lines (OfStmt n) h max = absurd (true≢false (sym h))
program_lines (OfItem n) h max = absurd (true≢false (sym h))
program_lines (OfLink n role) h max = absurd (true≢false (sym h))

-- ---- the last semicolon of a program

-- all but that
before_last : {X : Type 0} (l : Linked X) (n : Module X) → PrintsAt (loose_at (not (is_some n.shebang))) l.env (λ rest. programs.program_start n.shebang n.body.items n.span (in_order (module_item l.asks l.items) n.body.items (trailing_comments true n.span.hi rest))) (stmt_lists.whole_module l.reads n)
unfolding stmt_lists.whole_module
before_last l n =
    opened_prints l.env n.shebang n.body.items n.span
    (before (prints_wider loose refl (in_order_prints l.env (module_item l.asks l.items) (stmt_lists.module_item l.reads) (module_item_prints l) n.body.items)) (writes_trailing l.env true n.span.hi))

before_last_of : {X : Type 0} (l : Linked X) (n : Script X) → PrintsAt (loose_at (not (is_some n.shebang))) l.env (λ rest. programs.program_start n.shebang n.body.items n.span (in_order (stmt l.asks l.items) n.body.items (trailing_comments true n.span.hi rest))) (stmt_lists.script l.reads n)
unfolding stmt_lists.script
before_last_of l n =
    opened_prints l.env n.shebang n.body.items n.span
    (before (prints_wider loose refl (in_order_prints l.env (stmt l.asks l.items) (stmt_lists.stmt l.reads) (stmt_prints l) n.body.items)) (writes_trailing l.env true n.span.hi))

-- none is held back behind it
none_last : {i : Shape} (p : Part) (f : Phrase) (env : Env) (end : Plan) → PrintsAt i env p f → ((e : Env) → end e ≡ done) → is_possible f ≡ true → is_out env.config f ≡ false → env.config.omit_last_semi ≡ false → (s : State) → holds_one (run (steps_of (p (programs.last_semi end) env)) s).sheet.semicolons ≡ false
unfolding commit_pending_semi step steps_of run put effect
none_last p f env end prints ends w o wanted s =
    let h = (prints.where_possible w o env.maps).writes in
    let e : Env = env_after h.steps env in
    let last : steps_of (programs.last_semi end e) ≡ Call Commit ∷ [] = ap steps_of (committed_same end e wanted) ∙ ap (λ z. Call Commit ∷ steps_of z) (ends _) in
    let all : steps_of (p (programs.last_semi end) env) ≡ h.steps ++ (Call Commit ∷ []) = ap steps_of (h.is_steps (programs.last_semi end)) ∙ steps_of_more h.steps (programs.last_semi end e) ∙ ap (λ z. h.steps ++ z) last in
    ap (λ z. holds_one (run z s).sheet.semicolons) all ∙ ap (λ (z : State). holds_one z.sheet.semicolons) (run_append h.steps (Call Commit ∷ []) s) ∙ settled_none (run h.steps s).sheet

-- what comes behind a program by itself
abbrev end_of : Env → Plan
end_of env inner = nothing (record inner { max_line = env.max_line })

pub program_last : (env : Env) → env.keeps_invalid ≡ false → (n : Root) → is_program n ≡ true → (max : ℕ) → is_possible (root_phrase n) ≡ true → is_out env.config (root_phrase n) ≡ false → env.config.omit_last_semi ≡ false → (s : State) → holds_one (run (steps_of (unfilled max (root_at n) nothing env)) s).sheet.semicolons ≡ false
unfolding programs.program programs.script programs.whole_module programs.script_parts programs.module_parts stmt_lists.program with_max_line nothing
program_last env e (OfModule n) h max w o wanted s = none_last _ _ (at_length (Some max) env) (end_of env) (before_last (known (at_length (Some max) env) e) n) (λ z. refl) w o wanted s
program_last env e (OfScript n) h max w o wanted s = none_last _ _ (at_length (Some max) env) (end_of env) (before_last_of (known (at_length (Some max) env) e) n) (λ z. refl) w o wanted s
program_last env e (OfProgram (a_module n)) h max w o wanted s = none_last _ _ (at_length (Some max) env) (end_of env) (before_last (known (at_length (Some max) env) e) n) (λ z. refl) w o wanted s
program_last env e (OfProgram (a_script n)) h max w o wanted s = none_last _ _ (at_length (Some max) env) (end_of env) (before_last_of (known (at_length (Some max) env) e) n) (λ z. refl) w o wanted s
program_last env e (OfExpr n) h max w o wanted s = absurd (true≢false (sym h))
program_last env e (OfStmt n) h max w o wanted s = absurd (true≢false (sym h))
program_last env e (OfItem n) h max w o wanted s = absurd (true≢false (sym h))
program_last env e (OfLink n role) h max w o wanted s = absurd (true≢false (sym h))

-- ---- any root

-- A root prints its phrase, or does so in lines: a program where these are bounded.
abbrev pub Stands : Root → Env → Part → Type 0
Stands n env p = PrintsAt (root_shape n) env p (root_phrase n) ⊎ ((is_program n ≡ true) × InLines (root_shape n) env p (root_phrase n))

program_plain : (env : Env) → env.keeps_invalid ≡ false → (n : Root) → is_program n ≡ true → is_bounded env ≡ false → PrintsAt (root_shape n) env (root_items n) (root_phrase n)
program_plain env e n h b =
    let P : Place → Type 0 = λ z. PrintsAt (root_shape n) (none_of env) (root_at n z) (root_phrase n) in
    alone_prints (root_at n) env (subst P (sym (alone_plain env b)) (plain_prints (none_of env) e n h))

-- and where they are
unfoldable pub program_in : (env : Env) (max : ℕ) → env.keeps_invalid ≡ false → (n : Root) → is_program n ≡ true → is_bounded env ≡ true → alone env ≡ Whole (ByItself max) → InLines (root_shape n) env (root_items n) (root_phrase n)
program_in env max e n h b here =
    record {
      max = max;
      inner = unfilled max (root_at n);
      same = lines_alone (root_at n) env max here (program_lines n h max) nothing;
      prints = prints_at_length (Some max) env (root_at n (Whole Plain)) (plain_prints (at_length (Some max) env) e n h);
      bounded = b;
      ends = program_last env e n h max;
    }

-- where none are bounded
pub root_prints : (env : Env) → env.keeps_invalid ≡ false → (n : Root) → is_bounded env ≡ false → PrintsAt (root_shape n) env (root_items n) (root_phrase n)
root_prints env e n b = elim (cases_Bool (is_program n)) [
  | inl h ↦ program_plain env e n h b
  | inr h ↦ part_prints env e n h
]

program_stands : (env : Env) → env.keeps_invalid ≡ false → (n : Root) → is_program n ≡ true → is_bounded env ≡ true → Stands n env (root_items n)
program_stands env e n h b = let here = alone_lines env b in inr (h, program_in env here.0 e n h b here.1)

program_where : (env : Env) → env.keeps_invalid ≡ false → (n : Root) → is_program n ≡ true → Stands n env (root_items n)
program_where env e n h = elim (cases_Bool (is_bounded env)) [
  | inl b ↦ program_stands env e n h b
  | inr b ↦ inl (program_plain env e n h b)
]

pub root_stands : (env : Env) → env.keeps_invalid ≡ false → (n : Root) → Stands n env (root_items n)
root_stands env e n = elim (cases_Bool (is_program n)) [
  | inl h ↦ program_where env e n h
  | inr h ↦ inl (part_prints env e n h)
]
