-- The options hold the inputs, and the file of the `.config` is that of the arguments or the one that is read.
use Rattle.std.proofs.Common.{◌≡◌, ◌∙◌, false, List, Result, Ok, Err, Some, IfOk, codes, ap, map, refl, string_bytes, sym, unwrap_or}
use Rattle.std.specs.Prelude.{◌++◌}
use Rattle.std.specs.declared.alloc.AllocError.{AllocError}
use Rattle.clap.specs.Words.{Row, first_of, found_of, rows_of}
use Rattle.kc_outcome.specs.Outcome.{Options}
use Rattle.kc_words.specs.CommandLine.{AreOptionsOf, AreSharedOptions, asked_outputs, is_given, values_of}
use Rattle.kc_words.specs.Inputs.{HasInputs, output_view}
use Rattle.kc_words.specs.declared.options.Inputs.{Inputs}
use Rattle.kc_words.proofs.options.read_one.Goals as goal

module _ (rows : List Row) (inputs : Inputs) (config : string_bytes inputs.config ≡ unwrap_or (first_of (codes "config") rows) (codes ".config"))
    (outputs : map output_view inputs.outputs.items ≡ asked_outputs rows (Some (unwrap_or (first_of (codes "out") rows) (string_bytes inputs.config))))
    (fragments : map string_bytes inputs.fragments.items ≡ values_of (codes "FRAGMENT") rows ++ values_of (codes "fragment") rows)
    (must_exist : inputs.must_exist ≡ is_given (codes "must-exist") rows) (names_config : inputs.names_config ≡ false) where
  holds : (result : Result Options AllocError) → IfOk result (AreSharedOptions rows) → IfOk result (HasInputs inputs) → IfOk result (AreOptionsOf rows)
  holds (Ok options) shared has = record {
    shared = shared;
    config = ap string_bytes has.config ∙ config;
    outputs = ap (λ os. map output_view os.items) has.outputs ∙ outputs
        ∙ ap (λ c. asked_outputs rows (Some (unwrap_or (first_of (codes "out") rows) (string_bytes c)))) (sym has.config);
    fragments = ap (λ fs. map string_bytes fs.items) has.fragments ∙ fragments;
    must_exist = has.must_exist ∙ must_exist;
    names_config = has.names_config ∙ names_config;
  }
  holds (Err e) shared has = has

pub returns : goal.returns
returns c =
    let rows = rows_of (found_of c.args.matches.now) in
    holds rows _ c.in_ok-config.ensures
    (c.in_ok-asked_outputs.ensures
    ∙ ap (λ t. asked_outputs rows (Some t)) (c.in_ok-out.ensures ∙ ap (unwrap_or (first_of (codes "out") rows)) c.as_str.ensures.value))
    c.in_ok-fragments.ensures c.flag_of.ensures refl c.read_options.result c.read_options.ensures.ok c.read_options.ensures.inputs
