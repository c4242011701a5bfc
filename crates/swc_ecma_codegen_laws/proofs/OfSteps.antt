-- What holds of steps holds of the words of the lower emitter that are made of them.
use Rattle.std.proofs.Common.{◌≡◌, Bool, true, false, if◌then◌else◌, not, ◌||◌, ◌&&◌, List, ℕ, None}
use Rattle.swc_ecma_codegen_grammar.specs.CommentMaps.{Maps}
use Rattle.swc_ecma_codegen_grammar.specs.SourceLines.{Lines}
use Rattle.swc_ecma_codegen_tokens.specs.declared.refusals.Unprintable.{Unprintable}
use Rattle.swc_ecma_codegen_tokens.specs.Lists.{by_lines}
use Rattle.swc_ecma_codegen_tokens.specs.Run as run
use Rattle.swc_ecma_codegen_tokens.specs.Run.{Env, Part, Step, when_minified}
use Rattle.swc_ecma_codegen_tokens.specs.Words as calls
use Rattle.swc_ecma_codegen_tokens.proofs.Emission.Fronts.{is_inner_step}
use Rattle.swc_ecma_codegen_laws.specs.Breaks.{is_mark, is_break, is_enclosed}

-- a step that writes no mark behind which a line may be ended, doesn't say that one may, isn't written in templates and elements alone, and
-- neither begins nor ends lines
unfoldable pub is_other : Step → Bool
is_other x = not (is_mark x || is_break x) && (not (is_enclosed x) && is_inner_step x)

-- It holds of nothing, of one part after another, of what the settings, the comments and the lines of the source text tell, but not the greatest length of lines,
-- of steps, where no line may be ended also of those that are written in templates and elements alone, and of marks.
pub record OfSteps (holds : Bool → Part → Type 0) : Type 0 where
  pub none : (bounded : Bool) → holds bounded (λ rest. rest)
  pub and_then : (bounded : Bool) {p q : Part} → holds bounded p → holds bounded q → holds bounded (λ rest. p (q rest))
  pub refuse : (bounded : Bool) (r : Unprintable) → holds bounded (run.refuse r)
  pub by_env : (bounded : Bool) (ask : Env → Part) → ((now : Env) → holds bounded (ask now)) → holds bounded (λ rest env. ask (record env { max_line = None }) rest env)
  pub step : (bounded : Bool) (x : Step) → is_other x ≡ true → holds bounded (run.step x)
  pub enclosed : (x : Step) → is_enclosed x ≡ true → is_inner_step x ≡ true → holds false (run.step x)
  pub punct : (bounded : Bool) (t : List ℕ) → holds bounded (calls.punct t)
  pub semi : (bounded : Bool) → holds bounded calls.semi

pub either : {holds : Bool → Part → Type 0} (words : OfSteps holds) (bounded b : Bool) {p q : Part} → holds bounded p → holds bounded q → holds bounded (λ rest. if b then p rest else q rest)
either words bounded true h k = h
either words bounded false h k = k

-- the same with what they go by
pub either_at : {holds : Bool → Part → Type 0} (words : OfSteps holds) (bounded b : Bool) {p q : Part} → holds bounded p → holds bounded q → holds bounded (λ rest env. if b then p rest env else q rest env)
either_at words bounded true h k = h
either_at words bounded false h k = k

pub when_minified_holds : {holds : Bool → Part → Type 0} (words : OfSteps holds) (bounded : Bool) (p : Part) → holds bounded p → (q : Part) → holds bounded q → holds bounded (when_minified p q)
unfolding when_minified
when_minified_holds words bounded p h q k = words.by_env bounded (λ now rest env. if now.config.minify then p rest env else q rest env) (λ now. either_at words bounded now.config.minify h k)

pub by_lines_holds : {holds : Bool → Part → Type 0} (words : OfSteps holds) (bounded : Bool) (ask : Lines → Part) → ((lines : Lines) → holds bounded (ask lines)) → holds bounded (by_lines ask)
unfolding by_lines
by_lines_holds words bounded ask h = words.by_env bounded (λ now. ask now.lines) (λ now. h now.lines)

pub by_maps_holds : {holds : Bool → Part → Type 0} (words : OfSteps holds) (bounded : Bool) (ask : Maps → Part) → ((maps : Maps) → holds bounded (ask maps)) → holds bounded (calls.by_maps ask)
unfolding calls.by_maps
by_maps_holds words bounded ask h = words.by_env bounded (λ now. ask now.maps) (λ now. h now.maps)
