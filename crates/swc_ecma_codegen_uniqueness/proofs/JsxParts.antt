-- Which tokens of JSX the machine takes, and in whose place no other that begins like them.
use Rattle.std.proofs.Common.{◌≡◌, Bool, true, false, not, refl, sym}
use Rattle.std.proofs.lemmas.Bool.{true≢false}
use Rattle.swc_ecma_codegen_uniqueness.proofs.Classes.{Over, Less, Shifting, Comparing, Class, Infix, Assigns, Angled, Plain, Dot, ChainDot, Colon, OpenParen, OpenBracket, OpenBrace, First, Line, LiteralToken, Jsx, JsxPart, TagName, TagString, TagClose, TagText, ChildTagMark, ChildBraceMark}
use Rattle.swc_ecma_codegen_uniqueness.proofs.Controls.{Control, OpenTag, InTag, AttributeValue, AttributeElement, SelfClosing, ChildTag, Children, ClosingTag, ClosingName}
use Rattle.swc_ecma_codegen_uniqueness.proofs.Tables.{Reject, without, with_operand}

-- what stands in a tag, or behind an operand, and among children
abbrev pub is_in_tag : Class → Bool
is_in_tag (Jsx part) = true
is_in_tag Dot = true
is_in_tag Colon = true
is_in_tag OpenBrace = true
is_in_tag (Infix Over) = true
is_in_tag (Assigns Plain) = true
is_in_tag ChainDot = true
is_in_tag OpenParen = true
is_in_tag OpenBracket = true
is_in_tag (First tagged opens) = true
is_in_tag l = false

abbrev pub is_child : Class → Bool
is_child (Jsx TagText) = true
is_child (Jsx ChildTagMark) = true
is_child (Jsx ChildBraceMark) = true
is_child l = false

-- what begins as `>` does, and `[no LineTerminator here]`
abbrev pub is_angled : Class → Bool
is_angled (Infix Comparing) = true
is_angled (Infix Shifting) = true
is_angled (Assigns Angled) = true
is_angled Line = true
is_angled l = false

abbrev pub is_quoted : Class → Bool
is_quoted LiteralToken = true
is_quoted Line = true
is_quoted l = false

abbrev pub is_less : Class → Bool
is_less (Infix Less) = true
is_less Line = true
is_less l = false

abbrev pub is_brace : Class → Bool
is_brace OpenBrace = true
is_brace Line = true
is_brace l = false

-- the tokens that no state takes where it takes one of JSX
abbrev pub begins_like : JsxPart → Class → Bool
begins_like TagName l = not (is_in_tag l)
begins_like TagString l = is_quoted l
begins_like TagClose l = is_angled l
begins_like TagText l = not (is_child l)
begins_like ChildTagMark l = is_less l
begins_like ChildBraceMark l = is_brace l

pub open_tag_named : (l : Class) → not (is_in_tag l) ≡ true → without OpenTag l ≡ Reject
open_tag_named (Jsx part) h = absurd (true≢false (sym h))
open_tag_named l h = refl

pub in_tag_named : (l : Class) → not (is_in_tag l) ≡ true → without InTag l ≡ Reject
in_tag_named (Jsx part) h = absurd (true≢false (sym h))
in_tag_named Dot h = absurd (true≢false (sym h))
in_tag_named Colon h = absurd (true≢false (sym h))
in_tag_named OpenBrace h = absurd (true≢false (sym h))
in_tag_named (Infix Over) h = absurd (true≢false (sym h))
in_tag_named (Assigns Plain) h = absurd (true≢false (sym h))
in_tag_named l h = refl

pub child_tag_named : (l : Class) → not (is_in_tag l) ≡ true → without ChildTag l ≡ Reject
child_tag_named (Jsx part) h = absurd (true≢false (sym h))
child_tag_named (Infix Over) h = absurd (true≢false (sym h))
child_tag_named l h = refl

pub closing_tag_named : (l : Class) → not (is_in_tag l) ≡ true → without ClosingTag l ≡ Reject
closing_tag_named (Jsx part) h = absurd (true≢false (sym h))
closing_tag_named l h = refl

pub closing_name_named : (l : Class) → not (is_in_tag l) ≡ true → without ClosingName l ≡ Reject
closing_name_named (Jsx part) h = absurd (true≢false (sym h))
closing_name_named Dot h = absurd (true≢false (sym h))
closing_name_named Colon h = absurd (true≢false (sym h))
closing_name_named l h = refl

pub attribute_named : (l : Class) → not (is_in_tag l) ≡ true → with_operand AttributeElement l ≡ Reject
attribute_named (Jsx part) h = absurd (true≢false (sym h))
attribute_named OpenBrace h = absurd (true≢false (sym h))
attribute_named (Infix Over) h = absurd (true≢false (sym h))
attribute_named Dot h = absurd (true≢false (sym h))
attribute_named ChainDot h = absurd (true≢false (sym h))
attribute_named OpenParen h = absurd (true≢false (sym h))
attribute_named OpenBracket h = absurd (true≢false (sym h))
attribute_named (First tagged opens) h = absurd (true≢false (sym h))
attribute_named l h = refl

-- where `>` closes a tag
abbrev closes_tag : Control → Bool
closes_tag OpenTag = true
closes_tag InTag = true
closes_tag SelfClosing = true
closes_tag ChildTag = true
closes_tag ClosingTag = true
closes_tag ClosingName = true
closes_tag c = false

pub angled_rejected : (c : Control) (l : Class) → closes_tag c ≡ true → is_angled l ≡ true → without c l ≡ Reject
angled_rejected OpenTag (Infix Comparing) k h = refl
angled_rejected OpenTag (Infix Shifting) k h = refl
angled_rejected OpenTag (Assigns Angled) k h = refl
angled_rejected OpenTag Line k h = refl
angled_rejected OpenTag l k h = absurd (true≢false (sym h))
angled_rejected InTag (Infix Comparing) k h = refl
angled_rejected InTag (Infix Shifting) k h = refl
angled_rejected InTag (Assigns Angled) k h = refl
angled_rejected InTag Line k h = refl
angled_rejected InTag l k h = absurd (true≢false (sym h))
angled_rejected SelfClosing (Infix Comparing) k h = refl
angled_rejected SelfClosing (Infix Shifting) k h = refl
angled_rejected SelfClosing (Assigns Angled) k h = refl
angled_rejected SelfClosing Line k h = refl
angled_rejected SelfClosing l k h = absurd (true≢false (sym h))
angled_rejected ChildTag (Infix Comparing) k h = refl
angled_rejected ChildTag (Infix Shifting) k h = refl
angled_rejected ChildTag (Assigns Angled) k h = refl
angled_rejected ChildTag Line k h = refl
angled_rejected ChildTag l k h = absurd (true≢false (sym h))
angled_rejected ClosingTag (Infix Comparing) k h = refl
angled_rejected ClosingTag (Infix Shifting) k h = refl
angled_rejected ClosingTag (Assigns Angled) k h = refl
angled_rejected ClosingTag Line k h = refl
angled_rejected ClosingTag l k h = absurd (true≢false (sym h))
angled_rejected ClosingName (Infix Comparing) k h = refl
angled_rejected ClosingName (Infix Shifting) k h = refl
angled_rejected ClosingName (Assigns Angled) k h = refl
angled_rejected ClosingName Line k h = refl
angled_rejected ClosingName l k h = absurd (true≢false (sym h))
angled_rejected c l k h = absurd (true≢false (sym k))

pub attribute_angled : (l : Class) → is_angled l ≡ true → with_operand AttributeElement l ≡ Reject
attribute_angled (Infix Comparing) h = refl
attribute_angled (Infix Shifting) h = refl
attribute_angled (Assigns Angled) h = refl
attribute_angled Line h = refl
attribute_angled l h = absurd (true≢false (sym h))

pub value_quoted : (l : Class) → is_quoted l ≡ true → without AttributeValue l ≡ Reject
value_quoted LiteralToken h = refl
value_quoted Line h = refl
value_quoted l h = absurd (true≢false (sym h))

pub children_refuse : (l : Class) → not (is_child l) ≡ true → without Children l ≡ Reject
children_refuse (Jsx TagText) h = absurd (true≢false (sym h))
children_refuse (Jsx ChildTagMark) h = absurd (true≢false (sym h))
children_refuse (Jsx ChildBraceMark) h = absurd (true≢false (sym h))
children_refuse l h = refl

pub children_less : (l : Class) → is_less l ≡ true → without Children l ≡ Reject
children_less (Infix Less) h = refl
children_less Line h = refl
children_less l h = absurd (true≢false (sym h))

pub children_brace : (l : Class) → is_brace l ≡ true → without Children l ≡ Reject
children_brace OpenBrace h = refl
children_brace Line h = refl
children_brace l h = absurd (true≢false (sym h))
