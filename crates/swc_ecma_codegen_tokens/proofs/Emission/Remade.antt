-- Parts whose text may be made anew, in memory.
use Rattle.std.proofs.Common.{◌≡◌, ℕ, Bool, true, false, List, [], ◌∷◌, codes, refl, sym, subst}
use Rattle.std.proofs.lemmas.Bool.{or_from, true≢false}
use Rattle.swc_ecma_codegen_common.specs.declared.positions.Span.{Span}
use Rattle.swc_ecma_codegen_grammar.specs.declared.kinds.Kind.{Kind}
use Rattle.swc_ecma_codegen_grammar.specs.LitPhrases.{after_sign}
use Rattle.swc_ecma_codegen_grammar.specs.Phrases.{One, Generates, names_in}
use Rattle.swc_ecma_codegen_grammar.specs.PlainPhrases.{plain_phrase}
use Rattle.swc_ecma_codegen_grammar.specs.Tokens as lexical
use Rattle.swc_ecma_codegen_grammar.specs.Tokens.{Value}
use Rattle.swc_ecma_codegen_tokens.specs.Escapes.{is_spelled_anew, may_make_text}
use Rattle.swc_ecma_codegen_grammar.specs.CommentMaps.{Maps}
use Rattle.swc_ecma_codegen_tokens.specs.Run.{at_maps, Env, Part, Remake, step}
use Rattle.swc_ecma_codegen_tokens.specs.Scripts.{is_str}
use Rattle.swc_ecma_codegen_tokens.specs.Targets.{is_out}
use Rattle.swc_ecma_codegen_tokens.specs.Lits.{begun_in}
use Rattle.swc_ecma_codegen_tokens.specs.Literals.{begun}
use Rattle.swc_ecma_codegen_tokens.proofs.Emission.StepAscii.{holds_string}
use Rattle.swc_ecma_codegen_tokens.proofs.LiteralTokens.LiteralParts.{writes_begun}
use Rattle.swc_ecma_codegen_tokens.proofs.LiteralTokens.LitTexts.{signed_tokens}
use Rattle.swc_ecma_codegen_tokens.proofs.Emission.PartSteps.{IsSafe, no_names, placed_none, no_strings}
use Rattle.swc_ecma_codegen_tokens.proofs.Reading.Phrased.{Prints, no_string, prints_made}
use Rattle.swc_ecma_codegen_tokens.proofs.Reading.Printed.{Makes, makes_some, writes_if, writes_nothing, writes_remake, writes_then, Fills}

-- what begins as a `Lit` before it begins as itself
pub writes_begun_in : (env : Env) (in_lit : Bool) (span : Span) (t : List ℕ) → Fills env (begun_in in_lit span t)
unfolding begun_in
writes_begun_in env in_lit span t = writes_if env in_lit (begun span t) (λ rest. rest) [] (writes_begun env span t) (writes_nothing env)

-- a part of a text that is made anew, where that is due
pub makes_remade : {env : Env} {p : Part} {ts : List lexical.Token} {made : Bool} (due : Bool) → Makes env p ts made → Makes env (λ rest. step (Remake due) (p rest)) ts true
makes_remade {env} {p} {ts} due h = makes_some (writes_then env (step (Remake due)) p [] ts (writes_remake env due) h)

-- ---- a token whose text may be made anew

pub prints_anew : {env : Env} {p : Part} {made : Bool} (x : lexical.Token) → is_spelled_anew x.kind ≡ true → Makes env p (x ∷ []) made → ((maps : Maps) → IsSafe (at_maps maps env) p) → Prints env p (One x)
unfolding may_make_text
prints_anew {env} {p} x e h safe = prints_made env p x (subst (λ z. Makes env p (x ∷ []) z) (sym e) (makes_some h)) safe

-- the same after its sign, of one that is no string
pub prints_signed : {env : Env} {p : Part} {made : Bool} (kind : Kind) (value : Value) (negative : Bool) → is_spelled_anew kind ≡ true → is_str kind ≡ false → Makes env p (signed_tokens kind value negative) made → Prints env p (after_sign negative (One (record { kind = kind; value = value })))
unfolding plain_phrase after_sign may_make_text is_spelled_anew is_out Generates names_in lexical.punctuator holds_string is_str
prints_signed {env} {p} kind value true e none h = record {
  where_possible = λ w o maps. record {
    tokens = signed_tokens kind value true;
    generated = (lexical.punctuator (codes "-") ∷ [], record { kind = kind; value = value } ∷ [], refl, refl, refl);
    plain = λ e. (lexical.punctuator (codes "-") ∷ [], record { kind = kind; value = value } ∷ [], refl, refl, refl);
    writes = (subst (λ z. Makes env p (signed_tokens kind value true) z) (sym e) (makes_some h)).from maps;
    named = no_names (at_maps maps env) p;
    placed = placed_none (at_maps maps env) p (after_sign true (One (record { kind = kind; value = value }))) (signed_tokens kind value true) refl (lexical.punctuator (codes "-") ∷ [], record { kind = kind; value = value } ∷ [], refl, refl, refl);
    safe = no_strings (h.from maps) (or_from (is_str kind) false none refl);
  };
  where_out = λ w o. absurd (true≢false (sym o));
}
prints_signed {env} {p} kind value false e none h = prints_anew (record { kind = kind; value = value }) e h (no_string h none)
