-- The words of a run, as bytes, and what they ask for.
use Rattle.std.specs.Prelude.{ℕ, ◌^◌, Bool, if◌then◌else◌, ◌||◌, ◌&&◌, not, nat_lt, Option, Some, None, List, [], ◌∷◌, length, codes, String, string_bytes}
use Rattle.std.specs.List.{list_any}
use Rattle.std.specs.Option.{is_some, option_or, unwrap_or}
use Rattle.std.specs.Str.{all_ascii_digits, bytes_eq}
use Rattle.std.specs.Str.Parse.{digits_value}
use Rattle.swc_ecma_codegen_common.specs.declared.versions.EsVersion.{EsVersion}
use Rattle.swc_ecma_codegen_common.specs.declared.versions.EsVersion.TheVariants.{Es3, Es5, Es2015, Es2016, Es2017, Es2018, Es2019, Es2020, Es2021, Es2022, EsNext}
use Rattle.swc_ecma_codegen_settings.specs.Defaults.{default_config}
use Rattle.swc_ecma_codegen_settings.specs.declared.config.Config.{Config}
use Rattle.swc_ecma_codegen_runs.specs.declared.words.Options.{Options}

-- the version of the language that a word names
abbrev pub version_named : List ℕ → Option EsVersion
version_named word =
    if bytes_eq word (codes "es3") then Some Es3
    else if bytes_eq word (codes "es5") then Some Es5
    else if bytes_eq word (codes "es2015") then Some Es2015
    else if bytes_eq word (codes "es2016") then Some Es2016
    else if bytes_eq word (codes "es2017") then Some Es2017
    else if bytes_eq word (codes "es2018") then Some Es2018
    else if bytes_eq word (codes "es2019") then Some Es2019
    else if bytes_eq word (codes "es2020") then Some Es2020
    else if bytes_eq word (codes "es2021") then Some Es2021
    else if bytes_eq word (codes "es2022") then Some Es2022
    else if bytes_eq word (codes "esnext") then Some EsNext
    else None

-- the greatest length of a line that a word writes: one or more decimal digits, of a number that 32 bits hold
abbrev pub length_named : List ℕ → Option ℕ
length_named word =
    if nat_lt 0 (length word) && (all_ascii_digits word && nat_lt (digits_value 10 word) (2 ^ 32)) then Some (digits_value 10 word)
    else None

-- after this word comes the name of a version
abbrev pub is_target : List ℕ → Bool
is_target word = bytes_eq word (codes "--target")

-- after this word comes a length
abbrev pub is_max_line : List ℕ → Bool
is_max_line word = bytes_eq word (codes "--max-line")

-- after this word comes one that says more
abbrev pub wants_more : List ℕ → Bool
wants_more word = is_target word || is_max_line word

-- a word is an option of each program
abbrev pub is_option : List ℕ → Bool
is_option word =
    bytes_eq word (codes "--minify")
    || (bytes_eq word (codes "--omit-last-semi")
    || (bytes_eq word (codes "--ascii-only")
    || (bytes_eq word (codes "--assert")
    || (bytes_eq word (codes "--inline-script")
    || (bytes_eq word (codes "--positions")
    || (bytes_eq word (codes "--any")
    || wants_more word))))))

-- a word may come right after another, or after none, which is an empty one here; a program may have options of its own
abbrev pub may_follow : (List ℕ → Bool) → List ℕ → List ℕ → Bool
may_follow is_own before word =
    if is_target before then is_some (version_named word)
    else if is_max_line before then is_some (length_named word)
    else (is_option word || is_own word)

-- each word is an option, and the name of a version comes after each `--target`, a length after each `--max-line`, and neither
-- anywhere else, where this word came before
abbrev pub are_options_after : {Z : Type 0} → (List ℕ → Bool) → List ℕ → List (String Z) → Bool
are_options_after is_own before [] = not (wants_more before)
are_options_after is_own before (word ∷ words) = may_follow is_own before (string_bytes word) && are_options_after is_own (string_bytes word) words

-- the words are options: `--target es5 --minify`
abbrev pub are_options : {Z : Type 0} → (List ℕ → Bool) → List (String Z) → Bool
are_options is_own words = are_options_after is_own [] words

-- a word stands among these, once or more often
abbrev pub is_given : {Z : Type 0} → List ℕ → List (String Z) → Bool
is_given word words = list_any (λ w. bytes_eq (string_bytes w) word) words

-- the version that the last name of one among the words stands for, or else this one
abbrev pub last_version : {Z : Type 0} → EsVersion → List (String Z) → EsVersion
last_version version [] = version
last_version version (word ∷ words) = last_version (unwrap_or (version_named (string_bytes word)) version) words

-- the length that the last one among the words writes, or else this
abbrev pub last_length : {Z : Type 0} → Option ℕ → List (String Z) → Option ℕ
last_length most [] = most
last_length most (word ∷ words) = last_length (option_or (length_named (string_bytes word)) most) words

-- what the words ask for
abbrev pub options_of : {Z : Type 0} → List (String Z) → Options
options_of words =
    record {
      minify = is_given (codes "--minify") words;
      omit_last_semi = is_given (codes "--omit-last-semi") words;
      ascii_only = is_given (codes "--ascii-only") words;
      assert_for_attributes = is_given (codes "--assert") words;
      inline_script = is_given (codes "--inline-script") words;
      target = last_version EsNext words;
      max_line = last_length None words;
      positions = is_given (codes "--positions") words;
      any = is_given (codes "--any") words;
      fewest = is_given (codes "--fewest") words;
    }

-- the settings that this asks for
abbrev pub settings_of : Options → Config
settings_of options =
    record default_config {
      target = options.target;
      minify = options.minify;
      omit_last_semi = options.omit_last_semi;
      ascii_only = options.ascii_only;
      emit_assert_for_import_attributes = options.assert_for_attributes;
      inline_script = options.inline_script;
      max_line = options.max_line;
    }

-- the words ask for a text about the program
abbrev pub ask_for_text : {Z : Type 0} → List (String Z) → Bool
ask_for_text words = is_given (codes "--help") words || is_given (codes "--version") words
