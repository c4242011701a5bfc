-- What the lists of tokens depend on, of the settings of an emission.
use Rattle.std.specs.Prelude.{Bool, true, false}
use Rattle.swc_ecma_codegen_common.specs.declared.versions.EsVersion.{EsVersion}
use Rattle.swc_ecma_codegen_common.specs.declared.versions.EsVersion.TheVariants.{Es3, Es5}

pub record Settings : Type 0 where
  pub target : EsVersion
  pub ascii_only : Bool
  pub minify : Bool
  pub assert_for_attributes : Bool

-- a version before 2015
unfoldable pub is_up_to_es5 : EsVersion → Bool
is_up_to_es5 Es3 = true
is_up_to_es5 Es5 = true
is_up_to_es5 v = false
