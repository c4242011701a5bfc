-- What is said of a tree: whether its nodes have productions here, whether nothing but parentheses is wrong, whether none is missing, and whether the
-- core of the grammar has its productions.
use Rattle.std.specs.Prelude.{Bool, true, false, ◌&&◌, ◌||◌, not, if◌then◌else◌}
use Rattle.swc_ecma_codegen_syntax.specs.declared.nonterminals.Nonterminal.{Nonterminal}
use Rattle.swc_ecma_codegen_syntax.specs.declared.nonterminals.Nonterminal.TheVariants as nt
use Rattle.swc_ecma_codegen_syntax.specs.declared.verdicts.Verdict.{Verdict}
use Rattle.swc_ecma_codegen_syntax.specs.Nonterminals.{takes}

abbrev pub unasked : Verdict
unasked = record { covered = true; curable = true; parenthesized = true; core = true }

unfoldable pub meet : Verdict → Verdict → Verdict
meet v w = record { covered = v.covered && w.covered; curable = v.curable && w.curable; parenthesized = v.parenthesized && w.parenthesized; core = v.core && w.core }

-- what parentheses mend; what nothing mends; what has no production here; what has none in the core
unfoldable pub by_place : Verdict → Bool → Verdict
by_place v is_so = record v { parenthesized = v.parenthesized && is_so }

unfoldable pub by_rule : Verdict → Bool → Verdict
by_rule v is_so = record v { curable = v.curable && is_so }

unfoldable pub by_scope : Verdict → Bool → Verdict
by_scope v is_so = record v { covered = v.covered && is_so }

unfoldable pub by_core : Verdict → Bool → Verdict
by_core v is_so = record v { core = v.core && is_so }

-- A part of one nonterminal stands where another does. Where it can't, parentheses mend it if they may stand there, and round it.
unfoldable pub is_mended : Nonterminal → Nonterminal → Bool
is_mended place part = takes place nt.PrimaryExpression && takes nt.Expression part

unfoldable pub standing : Verdict → Nonterminal → Nonterminal → Verdict
standing v place part = if takes place part then v else (if is_mended place part then by_place v false else by_rule v false)

-- It is a derivation; or, where parentheses aren't asked for, it is one but for them.
unfoldable pub holds : Bool → Verdict → Bool
holds places v = v.covered && (v.curable && (not places || v.parenthesized))

-- Which derivations are asked for: whether parentheses have to stand where a place wants them; and whether a production may lie outside the core of the
-- grammar. The core is ECMA-262, 2024, with its section B.3.3 and with JSX.
pub record Grammar : Type 0 where
  pub places : Bool
  pub wide : Bool

-- all of the grammar, with parentheses where places want them, or without
abbrev pub full : Bool → Grammar
full places = record { places = places; wide = true }

-- the core
abbrev pub core : Grammar
core = record { places = true; wide = false }

-- It is a derivation in this grammar.
abbrev pub holds_in : Grammar → Verdict → Bool
holds_in grammar v = (grammar.wide || v.core) && holds grammar.places v
