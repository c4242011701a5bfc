-- Parts one after the other.
use Rattle.std.proofs.Common.{◌≡◌, List, [], ◌∷◌, ◌++◌, refl, sym, ap, ◌∙◌, append_assoc}
use Rattle.swc_ecma_codegen_grammar.specs.Tokens as lexical
use Rattle.swc_ecma_codegen_grammar.specs.Tokens.{token_of}
use Rattle.swc_ecma_codegen_grammar.specs.Trivia.{pieces_text, remarks_of}
use Rattle.swc_ecma_codegen_grammar.specs.Parts as parts
use Rattle.swc_ecma_codegen_grammar.specs.Parts.{Gap, Own, Joint, Break, tokens_of, remarks_in}

pub text_append : (xs ys : List parts.Part) → parts.text_of (xs ++ ys) ≡ parts.text_of xs ++ parts.text_of ys
unfolding parts.text_of
text_append [] ys = refl
text_append (Gap ps ∷ xs) ys = ap (λ z. pieces_text ps ++ z) (text_append xs ys) ∙ sym (append_assoc (pieces_text ps) (parts.text_of xs) (parts.text_of ys))
text_append (Joint ∷ xs) ys = text_append xs ys
text_append (Break ∷ xs) ys = text_append xs ys
text_append (Own x t ∷ xs) ys = ap (λ z. t ++ z) (text_append xs ys) ∙ sym (append_assoc t (parts.text_of xs) (parts.text_of ys))

pub tokens_append : (xs ys : List parts.Part) → tokens_of (xs ++ ys) ≡ tokens_of xs ++ tokens_of ys
unfolding tokens_of
tokens_append [] ys = refl
tokens_append (Gap ps ∷ xs) ys = tokens_append xs ys
tokens_append (Joint ∷ xs) ys = ap (λ z. lexical.same_line ∷ z) (tokens_append xs ys)
tokens_append (Break ∷ xs) ys = tokens_append xs ys
tokens_append (Own x t ∷ xs) ys = ap (λ z. token_of x t ∷ z) (tokens_append xs ys)

pub remarks_append : (xs ys : List parts.Part) → remarks_in (xs ++ ys) ≡ remarks_in xs ++ remarks_in ys
unfolding remarks_in
remarks_append [] ys = refl
remarks_append (Gap ps ∷ xs) ys = ap (λ z. remarks_of ps ++ z) (remarks_append xs ys) ∙ sym (append_assoc (remarks_of ps) (remarks_in xs) (remarks_in ys))
remarks_append (Joint ∷ xs) ys = remarks_append xs ys
remarks_append (Break ∷ xs) ys = remarks_append xs ys
remarks_append (Own x t ∷ xs) ys = remarks_append xs ys
