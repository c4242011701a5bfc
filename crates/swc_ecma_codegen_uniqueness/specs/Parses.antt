-- What a tree says, as pure data: its parse tree, without spans, without raws, and without what syntax leaves open. Each node is what its production in
-- `swc_ecma_codegen_syntax` says, so no type of node has a line here.
use Rattle.std.specs.Prelude.{Bool, true, false, List, [], ◌∷◌, ◌++◌}
use Rattle.std.specs.Str.{chars}
use Rattle.swc_ecma_codegen_tree.specs.declared.links.AnyNode.{AnyNode, AnyNode-F, fold-AnyNode}
use Rattle.swc_ecma_codegen_tree.specs.declared.links.AnyNode.TheVariants as whole
use Rattle.swc_ecma_codegen_tree.specs.declared.links.AnyNode.TheOpen as nodes
use Rattle.swc_ecma_codegen_tree.specs.declared.exprs.Expr.{Expr}
use Rattle.swc_ecma_codegen_tree.specs.declared.parts.ExprPart.TheVariants as expr_parts
use Rattle.swc_ecma_codegen_tree.specs.declared.pats.Pat.{Pat}
use Rattle.swc_ecma_codegen_tree.specs.declared.pats.Pat.TheVariants as pats
use Rattle.swc_ecma_codegen_tree.specs.declared.programs.Program.{Program}
use Rattle.swc_ecma_codegen_grammar.specs.Keys.{key_token}
use Rattle.swc_ecma_codegen_grammar.specs.Names.{name_value}
use Rattle.swc_ecma_codegen_grammar.specs.SpelledNames.{spelled_name}
use Rattle.swc_ecma_codegen_grammar.specs.Phrases.{Phrase, Never, Nothing, One, NameOf, KeyOf, PrivateOf, TagNameOf, Then, CommaBefore, OptionalParentheses, Chosen, chosen, closing_token}
use Rattle.swc_ecma_codegen_grammar.specs.Settings.{Settings}
use Rattle.swc_ecma_codegen_grammar.specs.Tokens.{Token}
use Rattle.swc_ecma_codegen_grammar.specs.Tokens as tokens
use Rattle.swc_ecma_codegen_grammar.specs.declared.roles.Role.{Role}
use Rattle.swc_ecma_codegen_grammar.specs.declared.roles.Role.TheVariants.{Expression, Pattern, Statement, Block, Function, FunctionHead, MethodHead, MethodDecorators, MethodTail, AccessorTail, ClassHead, ClassWord, ClassTail, ModuleDeclaration, ExportedHead, ExportedTail, VariableDeclaration, Element, TagObject, PropertyName, ChainMember, ChainCall, Template, TaggedTemplate}
use Rattle.swc_ecma_codegen_syntax.specs.declared.parameters.Parameters.{Parameters}
use Rattle.swc_ecma_codegen_syntax.specs.Parameters.{before}
use Rattle.swc_ecma_codegen_syntax.specs.Forms.{Form, Fixed, Part, Simple, Shaped, Restricted, Lone, Both, Provided, Closed, Bare, Followed, role_in}
use Rattle.swc_ecma_codegen_syntax.specs.ModuleForms.{program_form}
use Rattle.swc_ecma_codegen_syntax.specs.NodeForms.{node_form}
use Rattle.swc_ecma_codegen_uniqueness.specs.ParseTrees.{Variant, EmptyStmt, ParseTree, End, Read, Node, node_variant}

-- the tokens of a phrase, with no comma before a closing mark, and no parentheses but the tree's
unfoldable pub phrase_tokens : Settings → Phrase → List Token
phrase_tokens s Never = []
phrase_tokens s Nothing = []
phrase_tokens s (One x) = x ∷ []
phrase_tokens s (NameOf at bytes) = tokens.name (name_value (spelled_name bytes)) ∷ []
phrase_tokens s (KeyOf at bytes) = key_token s bytes ∷ []
phrase_tokens s (PrivateOf bytes) = tokens.private_name (name_value (spelled_name bytes)) ∷ []
phrase_tokens s (TagNameOf at bytes) = tokens.tag_name (chars bytes) ∷ []
phrase_tokens s (Then a b) = phrase_tokens s a ++ phrase_tokens s b
phrase_tokens s (CommaBefore close) = closing_token close ∷ []
phrase_tokens s (OptionalParentheses round a) = phrase_tokens s a
phrase_tokens s (Chosen choice) = chosen s choice

unfoldable pub read_all : List Token → ParseTree → ParseTree
read_all [] rest = rest
read_all (t ∷ ts) rest = Read t (read_all ts rest)

-- `...a` of a pattern, and an expression that is assigned to
unfoldable pub is_inlined_pat : {X : Type 0} → Pat X → Bool
is_inlined_pat (pats.Rest n) = true
is_inlined_pat (pats.Expr n) = true
is_inlined_pat n = false

unfoldable pub is_inlined_pattern : {X : Type 0} → AnyNode-F X → Bool
is_inlined_pattern (nodes.ExprPart (expr_parts.Pat n)) = is_inlined_pat n
is_inlined_pattern n = false

-- They are parts of the node above them, and no nodes of their own; so are a template, a link of an optional chain, a block, a key, a function without
-- its name, a class without its own, an item of a module, a declaration that is exported or
-- stands in the head of a `for`, an element of JSX that isn't between tags, and a part of a tag's name.
unfoldable pub is_inlined : {X : Type 0} → Role → AnyNode-F X → Bool
is_inlined (ChainMember optional) n = true
is_inlined (ChainCall optional) n = true
is_inlined Template n = true
is_inlined TaggedTemplate n = true
is_inlined Pattern n = is_inlined_pattern n
is_inlined Block n = true
is_inlined Function n = true
is_inlined FunctionHead n = true
is_inlined MethodHead n = true
is_inlined MethodDecorators n = true
is_inlined MethodTail n = true
is_inlined AccessorTail n = true
is_inlined ClassHead n = true
is_inlined ClassWord n = true
is_inlined ClassTail n = true
is_inlined ModuleDeclaration n = true
is_inlined ExportedHead n = true
is_inlined ExportedTail n = true
is_inlined VariableDeclaration n = true
is_inlined Element n = true
is_inlined TagObject n = true
is_inlined PropertyName n = true
is_inlined role n = false

unfoldable pub placed : Bool → Variant → (ParseTree → ParseTree) → ParseTree → ParseTree
placed true variant inside rest = inside rest
placed false variant inside rest = Node variant (inside End) rest

unfoldable pub is_empty_variant : Variant → Bool
is_empty_variant EmptyStmt = true
is_empty_variant variant = false

-- an empty statement
unfoldable pub is_empty_parse : ParseTree → Bool
is_empty_parse (Node variant inside rest) = is_empty_variant variant
is_empty_parse p = false

-- what a production says, before what stands behind it, where f says what a part does
unfoldable pub form_parse : {X : Type 0} → (X → Role → Parameters → ParseTree → ParseTree) → Settings → Form X → ParseTree → ParseTree
form_parse f s (Fixed p) rest = read_all (phrase_tokens s p) rest
form_parse f s (Part place c role n) rest = f n role c rest
form_parse f s (Simple named place c n) rest = f n Expression c rest
form_parse f s (Shaped shape place c role n) rest = f n role c rest
form_parse f s (Restricted lookahead place c as_pattern n) rest = f n (role_in as_pattern) c rest
form_parse f s (Lone place c n) rest = f n Pattern c rest
form_parse f s (Both a b) rest = form_parse f s a (form_parse f s b rest)
form_parse f s (Provided cure condition a) rest = form_parse f s a rest
form_parse f s (Closed comma close) rest = Read (closing_token close) rest
form_parse f s (Bare a) rest = form_parse f s a rest
form_parse f s (Followed place c n next) rest = f n Statement (before (is_empty_parse (f next Statement c End)) c) rest

-- a node, by its production (of the two of a member, which differ in nonterminals alone, the first)
unfoldable pub node_parse : {X : Type 0} → (X → Role → Parameters → ParseTree → ParseTree) → Settings → AnyNode-F X → Role → Parameters → ParseTree → ParseTree
node_parse f s n role c rest = placed (is_inlined role n) (node_variant n role) (form_parse f s (node_form false c n role)) rest

-- a whole node, in a role and under parameters
unfoldable pub parse : Settings → AnyNode → Role → Parameters → ParseTree → ParseTree
parse s = fold-AnyNode (Role → Parameters → ParseTree → ParseTree) (node_parse (λ known. known) s)

-- an expression, before what stands behind it; and by itself
abbrev pub expr_before : Settings → Parameters → Expr AnyNode → ParseTree → ParseTree
expr_before s c n rest = parse s (whole.Expr n) Expression c rest

abbrev pub expr_parse : Settings → Parameters → Expr AnyNode → ParseTree
expr_parse s c n = expr_before s c n End

-- a program, whose list of statements is in order, each without a node of its own
abbrev pub program_parse : Settings → Program AnyNode → ParseTree
program_parse s n = form_parse (parse s) s (program_form s.minify n) End
