-- What positions say of names.
use Rattle.std.specs.Prelude.{◌≡◌, ◌⊎◌, ℕ, true, false, List, [], ◌∷◌, ◌++◌, ⊤}
use Rattle.swc_ecma_codegen_common.specs.declared.positions.BytePos.{BytePos}
use Rattle.std.specs.Str.{chars}
use Rattle.swc_ecma_codegen_grammar.specs.Endings.{IsReduced}
use Rattle.swc_ecma_codegen_grammar.specs.Keys.{key_token}
use Rattle.swc_ecma_codegen_grammar.specs.Names.{name_value}
use Rattle.swc_ecma_codegen_grammar.specs.Phrases.{PlacedName, Plain, Key, Tag, Phrase, Never, Nothing, One, NameOf, KeyOf, PrivateOf, TagNameOf, Then, CommaBefore, OptionalParentheses, Chosen, chosen, closing_token, comma, open_parenthesis, in_parentheses}
use Rattle.swc_ecma_codegen_grammar.specs.Reads.{Reads}
use Rattle.swc_ecma_codegen_grammar.specs.Settings.{Settings}
use Rattle.swc_ecma_codegen_grammar.specs.SpelledNames.{spelled_name}
use Rattle.swc_ecma_codegen_grammar.specs.Tokens.{Token}
use Rattle.swc_ecma_codegen_grammar.specs.Tokens as tokens
use Rattle.swc_ecma_codegen_grammar.specs.Trivia.{Remark}
use Rattle.swc_ecma_codegen_tokens.specs.Settings.{settings_of}
use Rattle.swc_ecma_codegen_tokens.specs.Written.{without_joints, AddsReading}
use Rattle.swc_ecma_codegen_settings.specs.declared.config.Config.{Config}
use Rattle.swc_ecma_codegen_text_writer.specs.Places.{Place, after_text}
use Rattle.swc_ecma_codegen_text_writer.specs.Sheet.{Sheet, Pair, has_pair, pair_at, holds_semicolons}
use Rattle.swc_ecma_codegen_tokens.specs.Targets.{written_as}

-- a position stands in these pairs with this place, unless it is none
abbrev pub IsRecorded : BytePos → Place → List Pair → Type 0
IsRecorded pos p pairs = (pos.0 ≡ 0) ⊎ (has_pair (pair_at pos p) pairs ≡ true)

-- Names stand in a text, which begins at a place, one after another, as these settings have them written, and where each begins
-- its position is recorded: of a key in quotes at its quote. So `a;` LF `b;` of an `a` at 1 and a `b` at 4 wants 1 at 0:0 and 4 at 1:0.
unfoldable pub NamesStand : Config → Place → List ℕ → List Pair → List PlacedName → Type 0
NamesStand config p text pairs [] = ⊤
NamesStand config p text pairs (x ∷ xs) =
    (before rest : List ℕ) × (text ≡ before ++ (written_as config x ++ rest)) × IsRecorded x.at (after_text before p) pairs × NamesStand config (after_text (written_as config x) (after_text before p)) rest pairs xs

-- From one sheet to another these names were written, with their positions.
pub record RecordsNames (config : Config) (names : List PlacedName) (old new : Sheet) : Type 0 where
  pub text : List ℕ
  pub is_text : new.text ≡ old.text ++ text
  pub stand : NamesStand config old.place text new.pairs names

-- A name stands in the text from one sheet to another as the token that it is, behind these tokens: what is before it reads as them, and with
-- it as them and its own token; and where it begins its position is recorded. So for `var a;` the name `a` at 5 wants 5 at 0:4: `var `
-- reads as the token before it, and the `v` before the `a` of `var` doesn't. Where the writer holds semicolons back, some of those before it
-- may be left out.
pub record StandsAfter (config : Config) (old new : Sheet) (behind : List Token) (token : Token) (x : PlacedName) : Type 0 where
  pub before : List ℕ
  pub rest : List ℕ
  pub is_text : new.text ≡ old.text ++ (before ++ (written_as config x ++ rest))
  pub written : List Token
  pub reduced : IsReduced (behind ++ (token ∷ [])) (written ++ (token ∷ []))
  pub whole : holds_semicolons old.semicolons ≡ false → written ≡ behind
  pub remarks : List Remark
  pub reads_before : Reads (chars before) (without_joints written) remarks
  pub reads : Reads (chars (before ++ written_as config x)) (without_joints (written ++ (token ∷ []))) remarks
  pub recorded : IsRecorded x.at (after_text before old.place) new.pairs

-- A list of tokens is one of a phrase's, and something holds of each name in it, save private ones: of the tokens before the name, those
-- before the phrase among them, of its own token, and of the name.
unfoldable pub EachName : (List Token → Token → PlacedName → Type 0) → Settings → List Token → Phrase → List Token → Type 0
EachName holds s behind Never ts = ⊥
EachName holds s behind Nothing ts = ts ≡ []
EachName holds s behind (One x) ts = ts ≡ x ∷ []
EachName holds s behind (NameOf at bytes) ts =
    let token : Token = tokens.name (name_value (spelled_name bytes)) in
    (ts ≡ token ∷ []) × holds behind token (record { at = at; bytes = bytes; sort = Plain })
EachName holds s behind (KeyOf at bytes) ts = (ts ≡ key_token s bytes ∷ []) × holds behind (key_token s bytes) (record { at = at; bytes = bytes; sort = Key })
EachName holds s behind (PrivateOf bytes) ts = ts ≡ tokens.private_name (name_value (spelled_name bytes)) ∷ []
EachName holds s behind (TagNameOf at bytes) ts = (ts ≡ tokens.tag_name (chars bytes) ∷ []) × holds behind (tokens.tag_name (chars bytes)) (record { at = at; bytes = bytes; sort = Tag })
EachName holds s behind (Then a b) ts = (us vs : List Token) × EachName holds s behind a us × EachName holds s (behind ++ us) b vs × (ts ≡ us ++ vs)
EachName holds s behind (CommaBefore close) ts = (ts ≡ closing_token close ∷ []) ⊎ (ts ≡ comma ∷ closing_token close ∷ [])
EachName holds s behind (OptionalParentheses round a) ts = EachName holds s behind a ts ⊎ ((us : List Token) × EachName holds s (behind ++ (open_parenthesis ∷ [])) a us × (ts ≡ in_parentheses us))
EachName holds s behind (Chosen choice) ts = ts ≡ chosen s choice

-- a list of a phrase's tokens, behind some, in which each name stands as its token, with its position where it begins
abbrev pub AllStand : Config → Sheet → Sheet → List Token → Phrase → List Token → Type 0
AllStand config old new behind phrase ts = EachName (λ us t x. StandsAfter config old new us t x) (settings_of config) behind phrase ts

-- What a text is longer by reads as a list of a phrase, and each name of that list stands there as its own token, with its position where it
-- begins.
pub record PlacesNames (config : Config) (phrase : Phrase) (remarks : List Remark) (old new : Sheet) : Type 0 where
  pub reads : AddsReading config phrase remarks old new
  pub stand : AllStand config old new [] phrase reads.reading.tokens
