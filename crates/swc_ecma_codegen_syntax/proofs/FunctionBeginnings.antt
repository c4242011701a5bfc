-- What functions and arrow functions begin with.
use Rattle.std.proofs.Common.{◌≡◌, inl, inr, Bool, true, false, cond, codes, string_bytes, bytes_eq, refl, sym, ap, ◌∙◌, List, [], ◌∷◌, ◌++◌, map}
use Rattle.std.proofs.lemmas.Bool.{true≢false}
use Rattle.swc_ecma_codegen_tree.specs.Links.{PatBox}
use Rattle.swc_ecma_codegen_tree.specs.declared.links.AnyNode.{AnyNode, AnyNode-F, out-AnyNode}
use Rattle.swc_ecma_codegen_tree.specs.declared.links.AnyNode.TheOpen as nodes
use Rattle.swc_ecma_codegen_tree.specs.declared.parts.ExprPart.TheVariants as expr_parts
use Rattle.swc_ecma_codegen_tree.specs.declared.parts.TsPart.TheVariants as ts_parts
use Rattle.swc_ecma_codegen_tree.specs.declared.parts.JSXPart.TheVariants as jsx_parts
use Rattle.swc_ecma_codegen_tree.specs.declared.parts.StmtPart.TheVariants as stmt_parts
use Rattle.swc_ecma_codegen_tree.specs.declared.pats.Pat.TheVariants as pats
use Rattle.swc_ecma_codegen_grammar.specs.Phrases.{Phrase, Nothing, Then, OptionalParentheses, Parameter, mark, word, same_line, Generates}
use Rattle.swc_ecma_codegen_grammar.specs.Settings.{Settings}
use Rattle.swc_ecma_codegen_grammar.specs.Tokens as tokens
use Rattle.swc_ecma_codegen_grammar.specs.FunctionPhrases.{after_async, is_never, only_parameter, arrow_parameters}
use Rattle.swc_ecma_codegen_grammar.specs.PatPhrases.{plain_parameter}
use Rattle.swc_ecma_codegen_grammar.specs.PartPhrases.{expr_part, stmt_part, ts_part}
use Rattle.swc_ecma_codegen_grammar.specs.TreePhrases.{node_phrase, phrase}
use Rattle.swc_ecma_codegen_grammar.specs.declared.roles.Role.{Role}
use Rattle.swc_ecma_codegen_grammar.specs.declared.roles.Role.TheVariants.{Pattern, PlainParameter}
use Rattle.swc_ecma_codegen_grammar.proofs.TreeLaws.{phrase_at}
use Rattle.swc_ecma_codegen_syntax.specs.declared.lookahead.Beginning.{Beginning}
use Rattle.swc_ecma_codegen_syntax.specs.declared.lookahead.Beginning.TheVariants as begins
use Rattle.swc_ecma_codegen_syntax.specs.Summary.{begins_in}
use Rattle.swc_ecma_codegen_syntax.specs.Lookahead.{Sign, FunctionWord, AsyncWord, NoLineEnd, AnyToken, sign, sign_of, word_sign, mark_sign, begun, beginning, is_default_start}
use Rattle.swc_ecma_codegen_syntax.specs.Beginnings.{name_begins, goes_on_in_line, pat_begins, part_begins, node_begins, function_begins}
use Rattle.swc_ecma_codegen_syntax.specs.Forms.{only_phrase}
use Rattle.swc_ecma_codegen_syntax.specs.NodeForms.{summary_of}
use Rattle.swc_ecma_codegen_syntax.proofs.Beginnings.{is_asked, Leads, First, Settled, first_one, first_then, leads_first, leads_other, list_in_line}
use Rattle.swc_ecma_codegen_syntax.proofs.TreeFacts.{begins_at}
use Rattle.swc_ecma_codegen_grammar.specs.JsxPhrases.{jsx_part}

-- ---- a name that stands alone before `=>`

-- what stands on the line of `=>` begins like anything else
abbrev pub IsPlain : {X : Type 0} → (X → Role → Phrase) → (X → Role → Beginning) → X → Type 0
IsPlain p b x = is_never (p x PlainParameter) ≡ false → goes_on_in_line (b x Pattern) ≡ begins.Other

name_in_line : (a b : Bool) → goes_on_in_line (cond a begins.LetAlone (cond b begins.AsyncAlone begins.Other)) ≡ begins.Other
unfolding goes_on_in_line
name_in_line true b = refl
name_in_line false true = refl
name_in_line false false = refl

plain_layer : (f : AnyNode → Role → Phrase) (b : AnyNode → Role → Beginning) (n : AnyNode-F AnyNode) → is_never (node_phrase f n PlainParameter) ≡ false → goes_on_in_line (node_begins b n Pattern) ≡ begins.Other
unfolding node_phrase expr_part stmt_part jsx_part ts_part plain_parameter is_never node_begins part_begins pat_begins name_begins
plain_layer f b (nodes.ExprPart (expr_parts.Pat (pats.Ident n))) h = name_in_line (bytes_eq (string_bytes n.id.sym) (codes "let")) (bytes_eq (string_bytes n.id.sym) (codes "async"))
plain_layer f b (nodes.ExprPart (expr_parts.Pat n)) h = absurd (true≢false h)
plain_layer f b (nodes.ExprPart n) h = absurd (true≢false h)
plain_layer f b (nodes.StmtPart (stmt_parts.BlockStmt n)) h = absurd (true≢false h)
plain_layer f b (nodes.StmtPart n) h = absurd (true≢false h)
plain_layer f b (nodes.JSXPart (jsx_parts.JSXFragment n)) h = absurd (true≢false h)
plain_layer f b (nodes.JSXPart n) h = absurd (true≢false h)
plain_layer f b (nodes.TsPart (ts_parts.TsType n)) h = absurd (true≢false h)
plain_layer f b (nodes.TsPart n) h = absurd (true≢false h)
plain_layer f b n h = absurd (true≢false h)

pub plain_at : (n : AnyNode) → IsPlain phrase (begins_in summary_of) n
plain_at n h = ap goes_on_in_line (begins_at n Pattern) ∙ plain_layer phrase (begins_in summary_of) (out-AnyNode n) (ap is_never (sym (phrase_at n PlainParameter)) ∙ h)

-- ---- parameters and `=>`

enclosed_leads : (s : Settings) (p q : Phrase) → Leads s (Then (Then (mark (codes "(")) p) q) begins.Other
unfolding sign sign_of mark_sign tokens.punctuator
enclosed_leads s p q = leads_other s _ (first_then s _ q AnyToken (first_then s _ p AnyToken (first_one s _ AnyToken refl)))

optional_leads : (s : Settings) (p q : Phrase) (b : Beginning) → Leads s p b → goes_on_in_line b ≡ begins.Other → First s q AnyToken →
    Leads s (Then (OptionalParentheses Parameter p) (Then Nothing (Then same_line q))) begins.Other
unfolding Generates begun beginning sign sign_of mark_sign tokens.punctuator
optional_leads s p q b leads e first ts (us, vs, inl x, (ns, ws, y, z, k), l) =
    let (h, _) = list_in_line s q b us ws (leads us x) first z in
    (ap beginning (l ∙ ap (λ xs. us ++ xs) (k ∙ ap (λ xs. xs ++ ws) y)) ∙ h ∙ e, refl)
optional_leads s p q b leads e first ts (us, vs, inr (xs, x, h), y, l) = (ap beginning (l ∙ ap (λ zs. zs ++ vs) h), refl)

only_leads : (s : Settings) (p q : Phrase) (b : Beginning) (other : Bool) → Leads s p b → (other ≡ false → goes_on_in_line b ≡ begins.Other) → First s q AnyToken →
    Leads s (Then (only_phrase other p) (Then Nothing (Then same_line q))) begins.Other
only_leads s p q b true leads e first = enclosed_leads s _ _
only_leads s p q b false leads e first = optional_leads s p q b leads (e refl) first

pub params_lead : {X : Type 0} (s : Settings) (p : X → Role → Phrase) (b : X → Role → Beginning) (ns : List (PatBox X)) (q : Phrase) → ((n : PatBox X) → ns ≡ n ∷ [] → Leads s (p n.node.value Pattern) (b n.node.value Pattern)) →
    ((x : X) → IsPlain p b x) → First s q AnyToken → Leads s (Then (arrow_parameters p false ns) (Then Nothing (Then same_line q))) begins.Other
unfolding arrow_parameters only_parameter
params_lead s p b [] q leads plain first = enclosed_leads s _ _
params_lead s p b (n ∷ []) q leads plain first = only_leads s _ q (b n.node.value Pattern) (is_never (p n.node.value PlainParameter)) (leads n refl) (plain n.node.value) first
params_lead s p b (n ∷ m ∷ ns) q leads plain first = enclosed_leads s _ _

-- ---- `async`

async_signs : (zs : List Sign) → begun zs ≡ begins.Other → begun (AsyncWord ∷ NoLineEnd ∷ zs) ≡ begins.Other
unfolding begun is_default_start
async_signs [] h = absurd (true≢false (sym (ap is_asked h)))
async_signs (FunctionWord ∷ zs) h = absurd (true≢false (ap is_default_start h))
async_signs (z ∷ zs) h = refl

pub async_leads : (s : Settings) (is_async : Bool) (p : Phrase) → Leads s p begins.Other → Leads s (after_async is_async p) begins.Other
unfolding after_async Generates beginning sign sign_of word_sign tokens.word tokens.same_line
async_leads s false p leads ts x = leads ts x
async_leads s true p leads ts (us, vs, x, (ws, zs, y, z, k), l) =
    (ap beginning (l ∙ ap (λ xs. xs ++ vs) x ∙ ap (λ xs. tokens.word (codes "async") ∷ xs) (k ∙ ap (λ xs. xs ++ zs) y)) ∙ async_signs (map sign zs) (leads zs z).0, refl)

-- ---- the words before a function

function_first : (s : Settings) (q : Phrase) → First s (Then (word (codes "function")) q) FunctionWord
unfolding sign sign_of word_sign tokens.word
function_first s q = first_then s _ q FunctionWord (first_one s _ FunctionWord refl)

pub head_leads : (s : Settings) (is_async : Bool) (q : Phrase) → Leads s (after_async is_async (Then (word (codes "function")) q)) (function_begins is_async)
unfolding after_async function_begins Generates begun beginning sign sign_of word_sign tokens.word tokens.same_line
head_leads s false q ts x = leads_first s (Then (word (codes "function")) q) FunctionWord refl (function_first s q) ts x
head_leads s true q ts (us, vs, x, (ws, zs, y, z, k), l) =
    let (t, rest, m, h) = function_first s q zs z in
    (ap beginning (l ∙ ap (λ xs. xs ++ vs) x ∙ ap (λ xs. tokens.word (codes "async") ∷ xs) (k ∙ ap (λ xs. xs ++ zs) y ∙ ap (λ xs. tokens.same_line ∷ xs) m)) ∙ ap (λ w. begun (AsyncWord ∷ NoLineEnd ∷ w ∷ map sign rest)) h, refl)

pub head_settled : (is_async : Bool) → Settled (function_begins is_async)
unfolding function_begins
head_settled true ts = refl
head_settled false ts = refl
