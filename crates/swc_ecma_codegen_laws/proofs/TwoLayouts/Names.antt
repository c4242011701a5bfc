-- Names are written alike by any layout.
use Rattle.std.proofs.Common.{ℕ, Bool, true, false, if◌then◌else◌, List, [], ◌∷◌, codes, Option, Some, None, refl}
use Rattle.std.specs.List.{list_any}
use Rattle.std.specs.Str.{chars}
use Rattle.swc_ecma_codegen_common.specs.declared.positions.Span.{Span}
use Rattle.swc_ecma_codegen_spans.specs.Spans.{dummy_span}
use Rattle.swc_ecma_codegen_grammar.specs.ValidNames.{turned}
use Rattle.swc_ecma_codegen_grammar.specs.declared.kinds.Kind.TheVariants as kinds
use Rattle.swc_ecma_codegen_text_writer.specs.Sheet.{Punct, Symbol}
use Rattle.swc_ecma_codegen_literals.specs.AsciiNames.{ascii_name, wants_quotes}
use Rattle.swc_ecma_codegen_tokens.specs.declared.refusals.Unprintable.{Unprintable}
use Rattle.swc_ecma_codegen_tokens.specs.declared.refusals.Unprintable.TheVariants.{NameOutOfTarget}
use Rattle.swc_ecma_codegen_tokens.specs.Keys.{quoted_key, ascii_key, bare_key, plain_key, spelled_key, valid_key, key_text, key}
use Rattle.swc_ecma_codegen_tokens.specs.PrivateNames.{hashed, private_name, private_spelling, private_symbol, private_text, private_token, spelled_private, valid_private}
use Rattle.swc_ecma_codegen_tokens.specs.Run.{Env, Part, Ends, Remake, after_step, has_backslash, refuse, step, text_of}
use Rattle.swc_ecma_codegen_tokens.specs.Targets.{in_ascii, is_out_name, wants_escapes}
use Rattle.swc_ecma_codegen_tokens.specs.Words.{commit_pending_semi, leading_comments, name, name_text, question, spelled_symbol, symbol, valid_symbol}
use Rattle.swc_ecma_codegen_tokens.proofs.Reading.Printed.{chain}
use Rattle.swc_ecma_codegen_laws.specs.Layouts.{Tokens, tokens_by, tokens_in}
use Rattle.swc_ecma_codegen_laws.proofs.TwoLayouts.Differing.{differ_same}
use Rattle.swc_ecma_codegen_laws.proofs.TwoLayouts.Words.{always_commit, always_leading, always_position, always_question, always_remake}
use Rattle.swc_ecma_codegen_laws.proofs.TwoLayouts.Emissions.{TwoLayouts, Both, IsAlike, Writes, bare, Always, always_either, always_guard, always_plain, always_step, always_then, always_token, alike_always, alike_then, both_always, both_as, both_either, both_refuse, both_then, first_env, second_env, writes_as, writes_then}

-- ---- names

-- a name by a text
always_symbol : (span : Span) (t : List ℕ) → Always (symbol span t) ((kinds.Name, t) ∷ [])
unfolding symbol text_of
always_symbol span t = always_then (always_guard t) (always_then (always_position span.lo) (always_token kinds.Name (Symbol dummy_span t)))

-- one that can't be written for the target stops
abbrev pub stop_if : Bool → Option Unprintable
stop_if true = Some NameOutOfTarget
stop_if false = None

abbrev pub unless : Bool → Tokens → Tokens
unless true ts = []
unless false ts = ts

by_out : (env : Env) (out : Bool) (p : Part) (ts : Tokens) → Writes env p ts None → Writes env (λ rest now. if out then refuse NameOutOfTarget rest now else p rest now) (unless out ts) (stop_if out)
unfolding refuse tokens_in chain
by_out env true p ts h = record { steps = []; is_steps = λ rest. refl; tokens = refl }
by_out env false p ts h = h

spelled_writes : (env : Env) (span : Span) (t : List ℕ) → Writes (bare env) (spelled_symbol span t) (unless (is_out_name env.config t) ((kinds.Name, in_ascii env.config t) ∷ [])) (stop_if (is_out_name env.config t))
unfolding spelled_symbol
spelled_writes env span t =
    let part : Part = λ rest. step (Remake (wants_escapes env.config t)) (symbol span (in_ascii env.config t) rest) in
    writes_as (spelled_symbol span t) (λ rest now. if is_out_name env.config t then refuse NameOutOfTarget rest now else part rest now) (λ rest. refl)
    (by_out (bare env) (is_out_name env.config t) part ((kinds.Name, in_ascii env.config t) ∷ []) ((always_then (always_remake (wants_escapes env.config t)) (always_symbol span (in_ascii env.config t))).at env))

-- a name as the writer takes it
abbrev pub kept : Bool → List ℕ → List ℕ
kept keeps sym = if keeps then sym else turned sym

abbrev pub name_tokens : Env → List ℕ → Tokens
name_tokens env sym = unless (is_out_name env.config (kept env.keeps_invalid sym)) ((kinds.Name, in_ascii env.config (kept env.keeps_invalid sym)) ∷ [])

abbrev pub name_stop : Env → List ℕ → Option Unprintable
name_stop env sym = stop_if (is_out_name env.config (kept env.keeps_invalid sym))

by_kept : (env : Env) (span : Span) (sym : List ℕ) (keeps : Bool) → Writes (bare env) (λ rest now. if keeps then spelled_symbol span sym rest now else valid_symbol span sym rest now) (unless (is_out_name env.config (kept keeps sym)) ((kinds.Name, in_ascii env.config (kept keeps sym)) ∷ [])) (stop_if (is_out_name env.config (kept keeps sym)))
unfolding valid_symbol
by_kept env span sym true = spelled_writes env span sym
by_kept env span sym false = writes_then (step (Remake (has_backslash sym))) (spelled_symbol span (turned sym)) ((always_remake (has_backslash sym)).at env) (spelled_writes env span (turned sym))

text_writes : (env : Env) (span : Span) (sym : List ℕ) → Writes (bare env) (name_text span sym) (name_tokens env sym) (name_stop env sym)
unfolding name_text
text_writes env span sym = writes_as (name_text span sym) (λ rest now. if env.keeps_invalid then spelled_symbol span sym rest now else valid_symbol span sym rest now) (λ rest. refl) (by_kept env span sym env.keeps_invalid)

-- a name with its comments
pub name_writes : (env : Env) (span : Span) (sym : List ℕ) → Writes (bare env) (name span sym false) (name_tokens env sym) (name_stop env sym)
unfolding name question
name_writes env span sym =
    writes_then (leading_comments span.lo) (λ rest. commit_pending_semi (name_text span sym rest)) ((always_leading span.lo).at env)
    (writes_then commit_pending_semi (name_text span sym) (always_commit.at env) (text_writes env span sym))

alike_text : {two : TwoLayouts} (bounded : Bool) (span : Span) (sym : List ℕ) → IsAlike two bounded (name_text span sym)
unfolding is_out_name in_ascii wants_escapes
alike_text {two} bounded span sym = record {
  at = λ x y.
      record {
        us = name_tokens (first_env two x) sym;
        vs = name_tokens (second_env two y) sym;
        stop = name_stop (first_env two x) sym;
        first = text_writes (first_env two x) span sym;
        second = text_writes (second_env two y) span sym;
        fit = λ z. differ_same (name_tokens (first_env two x) sym);
      };
}

pub alike_name : {two : TwoLayouts} (bounded : Bool) (span : Span) (sym : List ℕ) (optional : Bool) → IsAlike two bounded (name span sym optional)
unfolding name
alike_name bounded span sym optional = alike_then bounded (alike_always bounded (always_leading span.lo)) (alike_then bounded (alike_always bounded always_commit) (alike_then bounded (alike_text bounded span sym) (alike_always bounded (always_question optional))))

-- ---- private names

always_private : (span : Span) (t : List ℕ) → Always (private_symbol span t) ((kinds.PrivateName, private_spelling t) ∷ [])
unfolding private_symbol private_token hashed after_step tokens_in tokens_by
always_private span t =
    always_then (always_guard (codes "#")) (always_then (always_position span.lo) (always_then (always_guard (codes "#")) (always_then (always_plain (Punct None (codes "#"))) (always_then (always_position span.lo)
    (always_step (Ends ((kinds.PrivateName, private_spelling t) ∷ []) (Symbol dummy_span t)) refl refl)))))

both_private : {two : TwoLayouts} (x y : Option ℕ) (span : Span) (t : List ℕ) → Both two x y (spelled_private span t) (spelled_private span t)
unfolding spelled_private is_out_name in_ascii wants_escapes
both_private {two} x y span t =
    let part : Part = λ rest. step (Remake (wants_escapes two.config t)) (private_symbol span (in_ascii two.config t) rest) in
    let chosen : Part = λ rest now. if is_out_name two.config t then refuse NameOutOfTarget rest now else part rest now in
    let there : Always part ((kinds.PrivateName, private_spelling (in_ascii two.config t)) ∷ []) = always_then (always_remake (wants_escapes two.config t)) (always_private span (in_ascii two.config t)) in
    both_as (spelled_private span t) (spelled_private span t) chosen chosen (λ rest. refl) (λ rest. refl)
    (both_either (is_out_name two.config t) (refuse NameOutOfTarget) (refuse NameOutOfTarget) part part (both_refuse NameOutOfTarget) (both_always there there))

both_private_text : {two : TwoLayouts} (x y : Option ℕ) (span : Span) (sym : List ℕ) → Both two x y (private_text span sym) (private_text span sym)
unfolding private_text valid_private
both_private_text {two} x y span sym =
    let chosen : Part = λ rest now. if two.keeps_invalid then spelled_private span sym rest now else valid_private span sym rest now in
    both_as (private_text span sym) (private_text span sym) chosen chosen (λ rest. refl) (λ rest. refl)
    (both_either two.keeps_invalid (spelled_private span sym) (spelled_private span sym) (valid_private span sym) (valid_private span sym) (both_private x y span sym)
    (both_then (both_always (always_remake (has_backslash sym)) (always_remake (has_backslash sym))) (both_private x y span (turned sym))))

pub alike_private_name : {two : TwoLayouts} (bounded : Bool) (span : Span) (sym : List ℕ) → IsAlike two bounded (private_name span sym)
unfolding private_name
alike_private_name bounded span sym = record {
  at = λ x y.
      both_then (both_always (always_leading span.lo) (always_leading span.lo))
      (both_then (both_private_text x y span sym) (both_always (always_position span.hi) (always_position span.hi)));
}

-- ---- keys

always_ascii_key : (quoted : Bool) (span : Span) (t : List ℕ) → Always (ascii_key quoted span t) (if quoted then (kinds.Str, t) ∷ [] else (kinds.Name, t) ∷ [])
unfolding ascii_key quoted_key text_of
always_ascii_key quoted span t = always_either quoted (always_then (always_guard t) (always_then (always_position span.lo) (always_token kinds.Str (Symbol dummy_span t)))) (always_symbol span t)

always_bare_key : (span : Span) (t : List ℕ) → Always (bare_key span t) ((kinds.Name, t) ∷ [])
unfolding bare_key
always_bare_key span t = always_then (always_guard t) (always_then (always_position span.lo) (always_then (always_leading span.lo) (always_then always_commit (always_symbol span t))))

both_plain_key : {two : TwoLayouts} (x y : Option ℕ) (span : Span) (t : List ℕ) → Both two x y (plain_key span t) (plain_key span t)
unfolding plain_key
both_plain_key {two} x y span t =
    let chosen : Part = λ rest now. if two.config.ascii_only then symbol span t rest now else bare_key span t rest now in
    both_as (plain_key span t) (plain_key span t) chosen chosen (λ rest. refl) (λ rest. refl)
    (both_either two.config.ascii_only (symbol span t) (symbol span t) (bare_key span t) (bare_key span t) (both_always (always_symbol span t) (always_symbol span t)) (both_always (always_bare_key span t) (always_bare_key span t)))

both_key : {two : TwoLayouts} (x y : Option ℕ) (span : Span) (t : List ℕ) → Both two x y (spelled_key span t) (spelled_key span t)
unfolding spelled_key wants_escapes
both_key {two} x y span t =
    let quoted : Bool = list_any (wants_quotes two.config.target) (chars t) in
    let part : Part = λ rest. step (Remake true) (ascii_key quoted span (ascii_name true two.config.target (chars t)) rest) in
    let chosen : Part = λ rest now. if wants_escapes two.config t then part rest now else plain_key span t rest now in
    let there : Always part (if quoted then (kinds.Str, ascii_name true two.config.target (chars t)) ∷ [] else (kinds.Name, ascii_name true two.config.target (chars t)) ∷ []) = always_then (always_remake true) (always_ascii_key quoted span (ascii_name true two.config.target (chars t))) in
    both_as (spelled_key span t) (spelled_key span t) chosen chosen (λ rest. refl) (λ rest. refl)
    (both_either (wants_escapes two.config t) part part (plain_key span t) (plain_key span t) (both_always there there) (both_plain_key x y span t))

both_key_text : {two : TwoLayouts} (x y : Option ℕ) (span : Span) (sym : List ℕ) → Both two x y (key_text span sym) (key_text span sym)
unfolding key_text valid_key
both_key_text {two} x y span sym =
    let chosen : Part = λ rest now. if two.keeps_invalid then spelled_key span sym rest now else valid_key span sym rest now in
    both_as (key_text span sym) (key_text span sym) chosen chosen (λ rest. refl) (λ rest. refl)
    (both_either two.keeps_invalid (spelled_key span sym) (spelled_key span sym) (valid_key span sym) (valid_key span sym) (both_key x y span sym)
    (both_then (both_always (always_remake (has_backslash sym)) (always_remake (has_backslash sym))) (both_key x y span (turned sym))))

pub alike_key : {two : TwoLayouts} (bounded : Bool) (span : Span) (sym : List ℕ) → IsAlike two bounded (key span sym)
unfolding key
alike_key bounded span sym = record {
  at = λ x y. both_then (both_always (always_leading span.lo) (always_leading span.lo)) (both_then (both_always always_commit always_commit) (both_key_text x y span sym));
}
