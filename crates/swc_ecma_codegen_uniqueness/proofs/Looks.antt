-- What is found in a table of texts and classes, and what class a name has.
use Rattle.std.proofs.Common.{◌≡◌, ℕ, Bool, true, false, ◌&&◌, cond, List, [], ◌∷◌, ap}
use Rattle.std.specs.Prelude.{bytes_eq}
use Rattle.std.proofs.lemmas.Bool.{and_parts}
use Rattle.swc_ecma_codegen_uniqueness.proofs.Classes.{Class, Strange, look, NameToken, KeyToken, class}
use Rattle.swc_ecma_codegen_grammar.specs.Tokens.{name}
use Rattle.swc_ecma_codegen_syntax.specs.NameForms.{is_reserved}

abbrev pub all_entries : (Class → Bool) → List (List ℕ × Class) → Bool
all_entries test [] = true
all_entries test (e ∷ es) = test e.1 && all_entries test es

pub of_two : (test : Class → Bool) (b : Bool) (l m : Class) → test l ≡ true → test m ≡ true → test (cond b l m) ≡ true
of_two test true l m h k = h
of_two test false l m h k = k

pub looked : (test : Class → Bool) (table : List (List ℕ × Class)) (text : List ℕ) → test Strange ≡ true → all_entries test table ≡ true → test (look table text) ≡ true
looked test [] text s h = s
looked test (e ∷ es) text s h =
    let p = and_parts (test e.1) (all_entries test es) h in
    of_two test (bytes_eq text e.0) e.1 (look es text) p.0 (looked test es text s p.1)

-- what holds of a name whether it is reserved or not
pub of_name : (test : Class → Bool) (text : List ℕ) → test KeyToken ≡ true → test NameToken ≡ true → test (class (name text)) ≡ true
unfolding name
of_name test text h k = of_two test (is_reserved text) KeyToken NameToken h k

pub of_neither : (test : Class → Bool) (b : Bool) (l m : Class) → test l ≡ false → test m ≡ false → test (cond b l m) ≡ false
of_neither test true l m h k = h
of_neither test false l m h k = k

pub name_class : (text : List ℕ) → is_reserved text ≡ false → class (name text) ≡ NameToken
unfolding name
name_class text h = ap (λ b. cond b KeyToken NameToken) h
