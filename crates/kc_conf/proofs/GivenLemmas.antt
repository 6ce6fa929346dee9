-- The input files, and what reading them does.
use Rattle.std.proofs.Common.{◌≡◌, ℕ, zero, suc, Bool, true, false, not, List, [], ◌∷◌, ◌++◌, map, take, refl, sym, ap, ◌∙◌, append_assoc, append-nil, Option, None, Some, is_none, unwrap_or}
use Rattle.std.specs.Prelude.{◌&&◌, ◌||◌, is_some, All, slice_get, if◌then◌else◌}
use Rattle.std.proofs.lemmas.List.Elements.{All-weaker, All-nil, All-cons}
use Rattle.std.proofs.lemmas.List.Folds.{list_all-append}
use Rattle.kc_io.specs.Log.{keeps_files, only_looks, Event, Log, did, each_byte, held}
use Rattle.kc_io.specs.declared.device.Action.{Action}
use Rattle.kc_io.specs.declared.device.Action.TheVariants.{Open, Miss, Read}
use Rattle.kc_io.proofs.LogLemmas.{keeps_both, keeps_bytes}
use Rattle.kc_language.specs.ConfigFile.{StreamLocation}
use Rattle.kc_language.specs.Expansion.{Files}
use Rattle.kc_language.specs.Symbols.{TreeFacts}
use Rattle.kc_conf.specs.Faults.{AreFirstReads, AreReads, nothing, of_accepted, refused_tree, refused_name, of_tree, ReadsUpTo}
use Rattle.kc_io.specs.Inputs.{AreInputs, AreThere, InputFile, IsAsTold, IsThere, ReadsTo, all, line, reads, reads_one}
use Rattle.kc_outcome.specs.Outcome.{Options, input_files}
use Rattle.kc_conf.specs.ReadSteps.{AreAsTold}
use Rattle.kc_conf.proofs.TellingLemmas.{Recalls, Tells-recalled}

-- ---- what is told of them, told again

module _ {told later : Log} (r : Recalls told later) where
  pub IsAsTold-recalled : (may : Bool) (file : InputFile) → IsAsTold told may file → IsAsTold later may file
  IsAsTold-recalled may file is = record {
    missing = is.missing;
    told = Tells-recalled (λ journal. (file.bytes ≡ unwrap_or (held journal file.name) []) × (file.is_missing ≡ (may && is_none (held journal file.name))))
        (λ j k same p. (p.0 ∙ ap (λ found. unwrap_or found []) (same file.name), p.1 ∙ ap (λ (found : Option (List ℕ)). may && is_none found) (same file.name))) r is.told;
  }

  pub AreInputs-recalled : (options : Options) (inputs : List InputFile) → AreInputs told options inputs → AreInputs later options inputs
  AreInputs-recalled options [] are = are
  AreInputs-recalled options (config ∷ fragments) are =
      (are.0, IsAsTold-recalled (not options.must_exist) config are.1, All-weaker _ _ (IsAsTold-recalled false) fragments are.2)

  pub AreAsTold-recalled : (may : Bool) (files : List InputFile) → AreAsTold told may files → AreAsTold later may files
  AreAsTold-recalled may [] are = tt
  AreAsTold-recalled may (file ∷ files) are = (IsAsTold-recalled may file are.0, AreAsTold-recalled false files are.1)

  pub IsThere-recalled : (file : InputFile) → IsThere told file → IsThere later file
  IsThere-recalled file there = λ not_missing. Tells-recalled (λ journal. is_some (held journal file.name) ≡ true) (λ j k same p. ap is_some (sym (same file.name)) ∙ p) r (there not_missing)

  pub AreThere-recalled : (inputs : List InputFile) → AreThere told inputs → AreThere later inputs
  AreThere-recalled inputs are = λ i file is turn. IsThere-recalled file (are i file is turn)

  pub AreReads-recalled : {files : Files} {options : Options} {inputs : List InputFile} {events : List Event} → AreReads files options inputs told events → AreReads files options inputs later events
  AreReads-recalled (refused_tree r is) = refused_tree r is
  AreReads-recalled (refused_name name is) = refused_name name is
  AreReads-recalled {inputs = inputs} (of_tree tree events accepted named there to) = of_tree tree events accepted named (AreThere-recalled inputs there) to

  pub ReadsUpTo-recalled : {options : Options} {tree : TreeFacts} {inputs : List InputFile} {action : Action} {file : InputFile} {done : List Event} {said : List ℕ} →
      ReadsUpTo told options tree inputs action file done said → ReadsUpTo later options tree inputs action file done said
  ReadsUpTo-recalled {inputs = inputs} up_to = record {
    i = up_to.i;
    is_file = up_to.is_file;
    turn = up_to.turn;
    there = AreThere-recalled (take up_to.i inputs) up_to.there;
    bytes = up_to.bytes;
    begins = up_to.begins;
    short = up_to.short;
    nothing_before = up_to.nothing_before;
    done_is = up_to.done_is;
    said_is = up_to.said_is;
  }

-- ---- that there are some

-- what is told of a file of this name
pub as_told : Log → Bool → List ℕ → InputFile
as_told None may name = record { name = name; is_missing = false; bytes = [] }
as_told (Some journal) may name = record { name = name; is_missing = may && is_none (held journal name); bytes = unwrap_or (held journal name) [] }

pub named-as_told : (log : Log) (may : Bool) (name : List ℕ) → (as_told log may name).name ≡ name
unfolding as_told
named-as_told None may name = refl
named-as_told (Some journal) may name = refl

pub is-as_told : (log : Log) (may : Bool) (name : List ℕ) → IsAsTold log may (as_told log may name)
unfolding as_told
is-as_told None may name = record { missing = λ e. absurd cc; told = λ journal e. absurd cc }
is-as_told (Some known) may name = record {
  missing = none may (held known name);
  told = λ journal e. let same : known ≡ journal = cc in rw same (refl, refl);
}
  where
    none : (m : Bool) (found : Option (List ℕ)) → (m && is_none found) ≡ true → (m ≡ true) × (unwrap_or found [] ≡ [])
    none true None e = (refl, refl)
    none true (Some bytes) e = absurd cc
    none false found e = absurd cc

-- only the first may be missing
all_told : Log → Bool → List (List ℕ) → List InputFile
all_told log may [] = []
all_told log may (name ∷ names) = as_told log may name ∷ all_told log false names

are-all_told : (log : Log) (may : Bool) (names : List (List ℕ)) → AreAsTold log may (all_told log may names)
unfolding all_told
are-all_told log may [] = tt
are-all_told log may (name ∷ names) = (is-as_told log may name, are-all_told log false names)

names-all_told : (log : Log) (may : Bool) (names : List (List ℕ)) → map (λ (file : InputFile). file.name) (all_told log may names) ≡ names
unfolding all_told
names-all_told log may [] = refl
names-all_told log may (name ∷ names) = let first = named-as_told log may name in let others = names-all_told log false names in cc

-- those of so many names that are left
pub others-told : (log : Log) (names : List (List ℕ)) → (files : List InputFile) × AreAsTold log false files × (map (λ (file : InputFile). file.name) files ≡ names)
others-told log names = (all_told log false names, are-all_told log false names, names-all_told log false names)

-- they are the input files
pub are-inputs : (log : Log) (options : Options) (files : List InputFile) → map (λ (file : InputFile). file.name) files ≡ input_files options → AreAsTold log (not options.must_exist) files →
    AreInputs log options files
are-inputs log options [] named are = absurd cc
are-inputs log options (config ∷ fragments) named are = (named, are.0, each fragments are.1)
  where
    each : (files : List InputFile) → AreAsTold log false files → All (IsAsTold log false) files
    each [] are = All-nil (IsAsTold log false)
    each (file ∷ files) are = All-cons (IsAsTold log false) file files are.0 (each files are.1)

-- whatever is told
pub inputs-exist : (log : Log) (options : Options) → (inputs : List InputFile) × AreInputs log options inputs
inputs-exist log options =
    let may = not options.must_exist in
    let names = input_files options in
    (all_told log may names, are-inputs log options (all_told log may names) (names-all_told log may names) (are-all_told log may names))

-- ---- what reading them does

keeps-reads_one : (file : InputFile) → keeps_files (reads_one file) ≡ true
keeps-reads_one file = by file.is_missing
  where
    by : (b : Bool) → keeps_files (if b then did Miss file.name else (did Open file.name ++ each_byte Read file.name file.bytes ++ did Read file.name)) ≡ true
    by true = refl
    by false = keeps_both (did Open file.name ++ each_byte Read file.name file.bytes) (did Read file.name) (keeps_both (did Open file.name) (each_byte Read file.name file.bytes) refl (keeps_bytes Read file.name file.bytes refl)) refl

pub keeps-reads : (files : List InputFile) → keeps_files (reads files) ≡ true
keeps-reads [] = refl
keeps-reads (file ∷ files) = keeps_both (reads_one file) (reads files) (keeps-reads_one file) (keeps-reads files)

pub and-both : (x y : Bool) → (x && y) ≡ true → (x ≡ true) × (y ≡ true)
and-both true y e = (refl, e)
and-both false y e = absurd (let clash : false ≡ true = e in cc)

keeps-front : (a b : List Event) → keeps_files (a ++ b) ≡ true → keeps_files a ≡ true
keeps-front a b keeps = (and-both (keeps_files a) (keeps_files b) (sym (list_all-append (λ (event : Event). is_some event.fault || only_looks event.action) a b) ∙ keeps)).0

-- the reads of one of the files, among all
reads-split : (files : List InputFile) (i : ℕ) (file : InputFile) → slice_get files i ≡ Some file → (rest : List Event) × (reads files ≡ reads (take i files) ++ (reads_one file ++ rest))
reads-split [] i file e = absurd (let clash : None ≡ Some file = e in cc)
reads-split (first ∷ files) zero file e =
    let same : first ≡ file = (let both : Some first ≡ Some file = e in cc) in
    (reads files, ap (λ (f : InputFile). reads_one f ++ reads files) same)
reads-split (first ∷ files) (suc i) file e =
    let (rest, is) = reads-split files i file e in
    (rest, ap (λ l. reads_one first ++ l) is ∙ sym (append_assoc (reads_one first) (reads (take i files)) (reads_one file ++ rest)))

pub reads_to-front : {files : List InputFile} {stopped : Option StreamLocation} {events : List Event} → ReadsTo files stopped events → (left : List Event) × (events ++ left ≡ reads files)
reads_to-front {files = files} all = ([], append-nil (reads files))
reads_to-front {files = files} (line stop i file events is turn long into) =
    let (rest, split) = reads-split files i file is in (
      into.left ++ rest,
      append_assoc (reads (take i files)) events (into.left ++ rest) ∙ ap (λ l. reads (take i files) ++ l) (sym (append_assoc events into.left rest) ∙ ap (λ l. l ++ rest) into.begins) ∙ sym split,
    )

-- what is read is a beginning of all reads
pub reads-front : {files : Files} {options : Options} {inputs : List InputFile} {told : Log} {events : List Event} → AreReads files options inputs told events → (left : List Event) × (events ++ left ≡ reads inputs)
reads-front {inputs = inputs} (refused_tree r is) = (reads inputs, refl)
reads-front {inputs = inputs} (refused_name name is) = (reads inputs, refl)
reads-front (of_tree tree events accepted named there to) = reads_to-front to

-- they are first reads
pub first-of-reads : {files : Files} {options : Options} {inputs : List InputFile} {told : Log} {events : List Event} → AreReads files options inputs told events →
    AreFirstReads files options inputs events
first-of-reads (refused_tree r is) = nothing
first-of-reads (refused_name name is) = nothing
first-of-reads (of_tree tree events accepted named there to) = let (left, split) = reads_to-front to in of_accepted tree events left accepted named split

-- which begin the reads of all files
pub first-begin : {files : Files} {options : Options} {inputs : List InputFile} {done : List Event} → AreFirstReads files options inputs done → (left : List Event) × (done ++ left ≡ reads inputs)
first-begin {inputs = inputs} nothing = (reads inputs, refl)
first-begin (of_accepted tree done left accepted named split) = (left, split)

-- and changes no file
pub keeps-are_reads : (files : Files) (options : Options) (inputs : List InputFile) (told : Log) (events : List Event) → AreReads files options inputs told events → keeps_files events ≡ true
keeps-are_reads files options inputs told events are =
    let (left, is) = reads-front are in keeps-front events left (ap keeps_files is ∙ keeps-reads inputs)
