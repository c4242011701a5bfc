-- Which texts are ASCII where the settings ask for that, and which stand as they are in the tree.
use Rattle.std.specs.Prelude.{◌≡◌, ℕ, Bool, true, false, not, ◌&&◌, ◌||◌, if◌then◌else◌, List, [], ◌∷◌, ◌++◌, codes, Option, Some, None}
use Rattle.std.specs.Str.{chars}
use Rattle.swc_ecma_codegen_grammar.specs.declared.kinds.Kind.{Kind}
use Rattle.swc_ecma_codegen_grammar.specs.declared.kinds.Kind.TheVariants as kinds
use Rattle.swc_ecma_codegen_grammar.specs.Phrases.{Phrase, Never, Nothing, One, NameOf, KeyOf, PrivateOf, TagNameOf, Then, CommaBefore, OptionalParentheses, Chosen}
use Rattle.swc_ecma_codegen_grammar.specs.Reads.{is_hashbang_kind}
use Rattle.swc_ecma_codegen_grammar.specs.StringValues.{string_value}
use Rattle.swc_ecma_codegen_grammar.specs.Texts.{is_same}
use Rattle.swc_ecma_codegen_grammar.specs.Tokens as lexical
use Rattle.swc_ecma_codegen_grammar.specs.Tokens.{Value, Characters, Units}
use Rattle.swc_ecma_codegen_text_writer.specs.Sheet.{Item, StrLit, Str, fills_lines}
use Rattle.swc_ecma_codegen_literals.specs.AsciiNames.{is_ascii_text}
use Rattle.swc_ecma_codegen_literals.specs.ValidNames.{has_byte}
use Rattle.swc_ecma_codegen_tokens.specs.Run.{State, Step, Guard, Token, Plain, Ends, Remake, Take, CommentText, text_of}

-- what a directive stands for
unfoldable pub is_strict : Option (List ℕ) → Bool
is_strict None = false
is_strict (Some us) = is_same us (codes "use strict")

-- A directive with a backslash is printed as it was spelled: `'use\x20strict'`.
unfoldable pub is_kept_directive : List ℕ → Bool
is_kept_directive t = has_byte 92 t && is_strict (string_value true (chars t))

-- The text of a call stands as it is in the tree, whatever the settings: what stands between the slashes of a regular
-- expression, its flags, the text of a template with a tag, and such a directive.
unfoldable pub is_kept_call : Item → Bool
is_kept_call (Str t) = true
is_kept_call (StrLit span t) = is_kept_directive t
is_kept_call x = false

-- what stands in a tag or between tags
unfoldable pub is_tag_kind : Kind → Bool
is_tag_kind kinds.JsxName = true
is_tag_kind kinds.JsxString = true
is_tag_kind kinds.JsxText = true
is_tag_kind kind = false

-- And so does what stands in a tag or between tags.
unfoldable pub is_kept : Kind → Item → Bool
is_kept kind x = is_tag_kind kind || is_kept_call x

-- such a text, which isn't ASCII
unfoldable pub is_other : Kind → Item → Bool
is_other kind x = is_kept kind x && not (is_ascii_text (text_of x))

-- the same of a call that writes a piece of a token: what stands between the slashes
unfoldable pub is_kept_piece : Item → Bool
is_kept_piece (Str t) = true
is_kept_piece x = false

unfoldable pub is_other_piece : Item → Bool
is_other_piece x = is_kept_piece x && not (is_ascii_text (text_of x))

-- And of a call with which these tokens end: flags, and a hashbang. One that ends none is the text of a template with a tag.
unfoldable pub is_kept_end : List (Kind × List ℕ) → Item → Bool
is_kept_end [] x = true
is_kept_end (t ∷ ts) (StrLit span u) = is_hashbang_kind t.0
is_kept_end (t ∷ ts) x = is_kept_piece x

unfoldable pub is_other_end : List (Kind × List ℕ) → Item → Bool
is_other_end ts x = is_kept_end ts x && not (is_ascii_text (text_of x))

-- some of these steps hands such a text over
unfoldable pub keeps_other : List Step → Bool
keeps_other [] = false
keeps_other (Guard t ∷ xs) = keeps_other xs
keeps_other (Token kind x ∷ xs) = is_other kind x || keeps_other xs
keeps_other (Plain x ∷ xs) = is_other_piece x || keeps_other xs
keeps_other (Ends tokens x ∷ xs) = is_other_end tokens x || keeps_other xs
keeps_other (Remake due ∷ xs) = keeps_other xs
keeps_other (Take side at ∷ xs) = keeps_other xs
keeps_other (CommentText t ∷ xs) = keeps_other xs

-- each of them hands ASCII over, save the texts of comments
unfoldable pub are_ascii : List Step → Bool
are_ascii [] = true
are_ascii (Guard t ∷ xs) = are_ascii xs
are_ascii (Token kind x ∷ xs) = is_ascii_text (text_of x) && are_ascii xs
are_ascii (Plain x ∷ xs) = is_ascii_text (text_of x) && are_ascii xs
are_ascii (Ends tokens x ∷ xs) = is_ascii_text (text_of x) && are_ascii xs
are_ascii (Remake due ∷ xs) = are_ascii xs
are_ascii (Take side at ∷ xs) = are_ascii xs
are_ascii (CommentText t ∷ xs) = are_ascii xs

-- each of them hands ASCII over, or a text that stands as it is; of comments nothing is said
unfoldable pub are_ascii_or_kept : List Step → Bool
are_ascii_or_kept [] = true
are_ascii_or_kept (Guard t ∷ xs) = are_ascii_or_kept xs
are_ascii_or_kept (Token kind x ∷ xs) = (is_ascii_text (text_of x) || is_kept kind x) && are_ascii_or_kept xs
are_ascii_or_kept (Plain x ∷ xs) = (is_ascii_text (text_of x) || is_kept_piece x) && are_ascii_or_kept xs
are_ascii_or_kept (Ends tokens x ∷ xs) = (is_ascii_text (text_of x) || is_kept_end tokens x) && are_ascii_or_kept xs
are_ascii_or_kept (Remake due ∷ xs) = are_ascii_or_kept xs
are_ascii_or_kept (Take side at ∷ xs) = are_ascii_or_kept xs
are_ascii_or_kept (CommentText t ∷ xs) = are_ascii_or_kept xs

-- a text before others, where it is one of them
abbrev pub text_if : Bool → List ℕ → List (List ℕ)
text_if b t = if b then t ∷ [] else []

-- The texts of these steps that stand as they are in the tree and aren't ASCII, and those of comments, in order.
unfoldable pub other_texts : List Step → List (List ℕ)
other_texts [] = []
other_texts (Guard t ∷ xs) = other_texts xs
other_texts (Token kind x ∷ xs) = text_if (is_other kind x) (text_of x) ++ other_texts xs
other_texts (Plain x ∷ xs) = text_if (is_other_piece x) (text_of x) ++ other_texts xs
other_texts (Ends tokens x ∷ xs) = text_if (is_other_end tokens x) (text_of x) ++ other_texts xs
other_texts (Remake due ∷ xs) = other_texts xs
other_texts (Take side at ∷ xs) = other_texts xs
other_texts (CommentText t ∷ xs) = t ∷ other_texts xs

-- a token that may stand as it is in the tree, and not in ASCII: a regular expression, a part of a template with a tag, a hashbang, a name in a
-- tag, a string of an attribute, text between tags, or a string that may be a directive
unfoldable pub is_other_value : Kind → Value → Bool
is_other_value kinds.Regex (Characters t) = not (is_ascii_text t)
is_other_value kinds.Str (Units us) = is_strict us
is_other_value (kinds.Template part) (Characters t) = not (is_ascii_text t)
is_other_value (kinds.TemplateRest part) (Characters t) = not (is_ascii_text t)
is_other_value kinds.Hashbang (Characters t) = not (is_ascii_text t)
is_other_value kinds.JsxName (Characters t) = not (is_ascii_text t)
is_other_value kinds.JsxString (Characters t) = not (is_ascii_text t)
is_other_value kinds.JsxText (Characters t) = not (is_ascii_text t)
is_other_value kind value = false

unfoldable pub keeps_tokens : List lexical.Token → Bool
keeps_tokens [] = false
keeps_tokens (x ∷ xs) = is_other_value x.kind x.value || keeps_tokens xs

-- such a token is in the tree
unfoldable pub may_keep_other : Phrase → Bool
may_keep_other Never = false
may_keep_other Nothing = false
may_keep_other (One x) = is_other_value x.kind x.value
may_keep_other (NameOf at bytes) = false
may_keep_other (KeyOf at bytes) = false
may_keep_other (PrivateOf bytes) = false
may_keep_other (TagNameOf at bytes) = not (is_ascii_text (chars bytes))
may_keep_other (Then a b) = may_keep_other a || may_keep_other b
may_keep_other (CommaBefore close) = false
may_keep_other (OptionalParentheses round a) = may_keep_other a
may_keep_other (Chosen choice) = false

-- An emission is to write ASCII: the settings ask for it, lines are indented by ASCII and end with it, no lines are filled
-- around it, and U+0000 after a backslash is left out of names.
pub record WantsAscii (s : State) : Type 0 where
  pub by_settings : s.env.config.ascii_only ≡ true
  pub leaves_out : s.env.keeps_invalid ≡ false
  pub indent_text : is_ascii_text s.sheet.indent_text ≡ true
  pub line_end : is_ascii_text s.sheet.line_end ≡ true
  pub flowing : fills_lines s.sheet.lines ≡ false

-- A text is ASCII, save these texts, which stand in it one after another.
unfoldable pub IsAsciiBut : List (List ℕ) → List ℕ → Type 0
IsAsciiBut [] t = is_ascii_text t ≡ true
IsAsciiBut (c ∷ cs) t = (before rest : List ℕ) × (t ≡ before ++ (c ++ rest)) × (is_ascii_text before ≡ true) × IsAsciiBut cs rest

-- what a text is longer by is ASCII, save these texts
pub record AddsAscii (others : List (List ℕ)) (old new : List ℕ) : Type 0 where
  pub added : List ℕ
  pub is_added : new ≡ old ++ added
  pub ascii : IsAsciiBut others added
