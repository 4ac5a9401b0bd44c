-- The calls of a script that is valid name paths and bytes.
use Rattle.std.proofs.Common.{◌≡◌, ◌≢◌, ℕ, zero, suc, ◌<◌, ◌^◌, ◌==◌, ◌&&◌, not, ℤ, pos, Bool, true, false, List, [], ◌∷◌, length, map, Option, None, Some, slice_get, refl, ap, sym, ◌∙◌, subst, inl, inr, arith, Contains}
use Rattle.std.specs.List.{AllByRecursion, list_all}
use Rattle.std.specs.Prelude.{IfSome, nat_le}
use Rattle.std.proofs.lemmas.Bool.Decides.{eqb_tells}
use Rattle.std.proofs.lemmas.List.Elements.{All-cons, All-from_recursion, All-nil}
use Rattle.kabi_types.specs.declared.calls.Call.{Call}
use Rattle.kabi_types.specs.declared.calls.Call.TheVariants as calls
use Rattle.kabi_types.specs.declared.calls.CallKind.{CallKind}
use Rattle.kabi_types.specs.declared.calls.CallKind.TheVariants as kind
use Rattle.kabi_types.specs.declared.scripts.Control.{Control}
use Rattle.kabi_types.specs.declared.scripts.Operand.{Operand}
use Rattle.kabi_types.specs.declared.scripts.Program.{Program}
use Rattle.kabi_types.specs.declared.scripts.Script.{Script}
use Rattle.kabi_types.specs.declared.scripts.Statement.{Statement}
use Rattle.kabi_types.specs.declared.scripts.Statement.TheVariants as statement
use Rattle.posix_defs.specs.Control.{body_of, call_at, call_of, settled, statement_of, statements_of, value_of}
use Rattle.posix_defs.specs.Made.{made, text_at}
use Rattle.posix_defs.specs.Reaching.{paths_of}
use Rattle.posix_defs.specs.ScriptLines.{shape_of}
use Rattle.posix_defs.specs.ValidScript.{Fits, HasText, HasTwoPaths, IsBytes, IsPath, IsProgram, IsStatement, IsStored, IsValid}
use Rattle.machine_laws.proofs.Places.{not_some}
use Rattle.machine_laws.specs.Bytes.{AreBytes}
use Rattle.machine_laws.specs.Texts.{ArePathBytes, HasTexts}
use Rattle.machine_laws.proofs.Items.{true_false}

abbrev IsPathByte : ℕ → Type 0
IsPathByte byte = (0 < byte) × (byte < 2 ^ 8)

bytes_are : (text : List ℕ) → IsBytes text → AreBytes text
bytes_are text is = All-from_recursion (λ byte. byte < 2 ^ 8) text is

both : (a b : Bool) → (a && b) ≡ true → (a ≡ true) × (b ≡ true)
both true b e = (refl, e)
both false b e = absurd (true_false false e refl)

path_is : (text : List ℕ) → IsPath text → ArePathBytes text
path_is text is = go text (both (nat_le (length text) 255) (list_all (λ byte. not (byte == 0)) text) is.0).1 is.1
  where
    above : (byte : ℕ) → not (byte == 0) ≡ true → 0 < byte
    above byte e = elim (eqb_tells byte 0) [
      | inl alike ↦ absurd (true_false (not (byte == 0)) e (ap not alike.0))
      | inr apart ↦ (let h : byte ≢ 0 = apart.1 in omega arith)
    ]

    go : (text : List ℕ) → list_all (λ byte. not (byte == 0)) text ≡ true → IsBytes text → ArePathBytes text
    go [] none bytes = All-nil IsPathByte
    go (byte ∷ rest) none bytes = let parts = both (not (byte == 0)) (list_all (λ byte. not (byte == 0)) rest) none in
        All-cons IsPathByte byte rest (above byte parts.0, bytes.0) (go rest parts.1 bytes.1)

-- ---- what a call is made of

one_of : (text path : List ℕ) → Contains (text ∷ []) path → text ≡ path
one_of text path (zero, h, e) = e
one_of text path (suc k, h, e) = absurd (omega arith)

two_of : (old new path : List ℕ) → ArePathBytes old → ArePathBytes new → Contains (old ∷ new ∷ []) path → ArePathBytes path
two_of old new path is_old is_new (zero, h, e) = subst ArePathBytes e is_old
two_of old new path is_old is_new (suc zero, h, e) = subst ArePathBytes e is_new
two_of old new path is_old is_new (suc (suc k), h, e) = absurd (omega arith)

none_of : (path : List ℕ) → Contains [] path → ArePathBytes path
none_of path here = absurd (omega (arith, here.1))

one_text : (count : ℕ) (values : List Operand) (texts : List (List ℕ)) → HasText IsPath count values texts → (path : List ℕ) → Contains (text_at texts 0 ∷ []) path → ArePathBytes path
one_text count values texts fits path here = subst ArePathBytes (sym (ap (λ list. text_at list 0) fits.texts_are) ∙ one_of (text_at texts 0) path here) (path_is fits.text fits.fits)

two_texts : (values : List Operand) (texts : List (List ℕ)) → HasTwoPaths values texts → (path : List ℕ) → Contains (text_at texts 0 ∷ text_at texts 1 ∷ []) path → ArePathBytes path
two_texts values texts fits path here = two_of fits.old fits.new path (path_is fits.old fits.is_old) (path_is fits.new fits.is_new)
    (subst (λ list. Contains (text_at list 0 ∷ text_at list 1 ∷ []) path) fits.texts_are here)

made_paths : (which : CallKind) (numbers : List ℤ) (values : List Operand) (texts : List (List ℕ)) (done : ℕ) → Fits (shape_of which) values texts
    → (path : List ℕ) → Contains (paths_of (made which numbers texts done)) path → ArePathBytes path
made_paths kind.Exec numbers values texts done fits path here = one_text 0 values texts fits path here
made_paths kind.OpenFile numbers values texts done fits path here = one_text 1 values texts fits path here
made_paths kind.Stat numbers values texts done fits path here = one_text 0 values texts fits path here
made_paths kind.Chdir numbers values texts done fits path here = one_text 0 values texts fits path here
made_paths kind.Mkdir numbers values texts done fits path here = one_text 0 values texts fits path here
made_paths kind.Rmdir numbers values texts done fits path here = one_text 0 values texts fits path here
made_paths kind.Mkfifo numbers values texts done fits path here = one_text 0 values texts fits path here
made_paths kind.Unlink numbers values texts done fits path here = one_text 0 values texts fits path here
made_paths kind.Link numbers values texts done fits path here = two_texts values texts fits path here
made_paths kind.Rename numbers values texts done fits path here = two_texts values texts fits path here
made_paths kind.Bind numbers values texts done fits path here = one_text 1 values texts fits path here
made_paths kind.Connect numbers values texts done fits path here = one_text 1 values texts fits path here
made_paths _ numbers values texts done fits path here = none_of path here

-- the bytes that a call stores
abbrev stored_of : Call → List ℕ
stored_of (calls.Store addr bytes) = bytes
stored_of _ = []

made_stored : (which : CallKind) (numbers : List ℤ) (values : List Operand) (texts : List (List ℕ)) (done : ℕ) → Fits (shape_of which) values texts → AreBytes (stored_of (made which numbers texts done))
made_stored kind.Store numbers values texts done fits = go fits
  where
    go : HasText IsStored 1 values texts → AreBytes (text_at texts 0)
    go fits = subst AreBytes (sym (ap (λ list. text_at list 0) fits.texts_are)) (bytes_are fits.text fits.fits.1)
made_stored _ numbers values texts done fits = All-nil (λ byte. byte < 2 ^ 8)

-- ---- statements

at_recursion : {X : Type 0} (P : X → Type 0) (xs : List X) (k : ℕ) (x : X) → AllByRecursion P xs → slice_get xs k ≡ Some x → P x
at_recursion P [] k x all is = absurd (not_some refl is)
at_recursion P (y ∷ ys) zero x all is = subst P (same is) all.0
  where
    same : Some y ≡ Some x → y ≡ x
    same e = cc
at_recursion P (y ∷ ys) (suc k) x all is = at_recursion P ys k x all.1 is

statement_is : (script : Script) (control : Control) (here : Statement) → IsValid script → statement_of script control ≡ Some here → IsStatement (body_of script control) control.place here
statement_is script control here valid is = go (slice_get script.programs control.program) refl is
  where
    found : (body : List Statement) → IfSome (slice_get body control.place) (IsStatement body control.place) → slice_get body control.place ≡ Some here → IsStatement body control.place here
    found body holds e = subst (λ o. IfSome o (IsStatement body control.place)) e holds

    go : (o : Option Program) → slice_get script.programs control.program ≡ o → slice_get (statements_of o) control.place ≡ Some here → IsStatement (statements_of o) control.place here
    go None there e = absurd (not_some refl e)
    go (Some program) there e = let fine = at_recursion IsProgram script.programs control.program program valid.programs there in found program.body (fine.body control.place) e

module _ (script : Script) (valid : IsValid script) (control : Control) where
  abbrev Fine : Call → Type 0
  Fine call = ((path : List ℕ) → Contains (paths_of call) path → ArePathBytes path) × AreBytes (stored_of call)

  plain_fine : (call : Call) → paths_of call ≡ [] → stored_of call ≡ [] → Fine call
  plain_fine call none nothing = (λ path here. none_of path (subst (λ list. Contains list path) none here), subst AreBytes (sym nothing) (All-nil (λ byte. byte < 2 ^ 8)))

  at_fine : (here : Control) (o : Option Statement) → statement_of script here ≡ o → Fine (call_at here o)
  at_fine here None is = plain_fine (calls.Exit (pos 0)) refl refl
  at_fine here (Some (statement.Invoke which operands texts first second)) is =
      let fine = statement_is script here (statement.Invoke which operands texts first second) valid is in
      (made_paths which (map (value_of here) operands) operands texts here.done fine.1, made_stored which (map (value_of here) operands) operands texts here.done fine.1)
  at_fine here (Some (statement.Set register value)) is = plain_fine calls.SchedYield refl refl
  at_fine here (Some (statement.Add register value)) is = plain_fine calls.SchedYield refl refl
  at_fine here (Some (statement.If left test right place)) is = plain_fine calls.SchedYield refl refl
  at_fine here (Some (statement.Jump place)) is = plain_fine calls.SchedYield refl refl
  at_fine here (Some (statement.Label name)) is = plain_fine calls.SchedYield refl refl
  at_fine here (Some (statement.Loop register place)) is = plain_fine calls.SchedYield refl refl

  call_fine : Fine (call_of script control)
  call_fine = at_fine (settled script control) (statement_of script (settled script control)) refl

pub valid_texts : (script : Script) → IsValid script → HasTexts script
valid_texts script valid = record {
  least_disk = valid.least_disk;
  most_disk = valid.most_disk;
  paths = λ control path here. (call_fine script valid control).0 path here;
  stored = λ control addr bytes e. subst AreBytes (ap stored_of e) (call_fine script valid control).1;
}
