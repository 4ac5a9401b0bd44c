-- The number that a call has, and whether it moves bytes.
use Rattle.std.specs.Prelude.{ℕ, ℤ, ◌≡◌, List, None, false, refl}
use Rattle.kabi_types.specs.declared.calls.Call.{Call}
use Rattle.kabi_types.specs.declared.calls.Call.TheVariants as call
use Rattle.call_run.specs.Families.{is_moving, number_of}

-- ---- a call that has no number

pub no_number : (which : Call)
    → ((a : ℤ) → which ≡ call.Close a → ⊥)
    → ((a : ℤ) → which ≡ call.Dup a → ⊥)
    → ((a b : ℤ) → which ≡ call.Dup2 a b → ⊥)
    → ((a b c : ℤ) → which ≡ call.Fcntl a b c → ⊥)
    → ((a b c : ℤ) → which ≡ call.Read a b c → ⊥)
    → ((fd addr n : ℤ) (done : ℕ) → which ≡ call.Write fd addr n done → ⊥)
    → ((a b c d : ℤ) → which ≡ call.Pread a b c d → ⊥)
    → ((a b c d : ℤ) → which ≡ call.Pwrite a b c d → ⊥)
    → ((a b c : ℤ) → which ≡ call.Lseek a b c → ⊥)
    → ((a b c : ℤ) → which ≡ call.Readdir a b c → ⊥)
    → ((a b : ℤ) → which ≡ call.Ftruncate a b → ⊥)
    → ((a : ℤ) → which ≡ call.Fstat a → ⊥)
    → ((fd : ℤ) (path : List ℕ) → which ≡ call.Bind fd path → ⊥)
    → ((a : ℤ) → which ≡ call.Listen a → ⊥)
    → ((fd : ℤ) (path : List ℕ) → which ≡ call.Connect fd path → ⊥)
    → ((a : ℤ) → which ≡ call.Accept a → ⊥)
    → ((a b : ℤ) → which ≡ call.Shutdown a b → ⊥)
    → ((a b c d : ℤ) → which ≡ call.Setlk a b c d → ⊥)
    → ((a b c d : ℤ) → which ≡ call.Setlkw a b c d → ⊥)
    → ((a b c d : ℤ) → which ≡ call.Getlk a b c d → ⊥)
    → None ≡ number_of which
no_number (call.Close a) isnt _ _ _ _ _ _ _ _ _ _ _ _ _ _ _ _ _ _ _ = absurd (isnt a refl)
no_number (call.Dup a) _ isnt _ _ _ _ _ _ _ _ _ _ _ _ _ _ _ _ _ _ = absurd (isnt a refl)
no_number (call.Dup2 a b) _ _ isnt _ _ _ _ _ _ _ _ _ _ _ _ _ _ _ _ _ = absurd (isnt a b refl)
no_number (call.Fcntl a b c) _ _ _ isnt _ _ _ _ _ _ _ _ _ _ _ _ _ _ _ _ = absurd (isnt a b c refl)
no_number (call.Read a b c) _ _ _ _ isnt _ _ _ _ _ _ _ _ _ _ _ _ _ _ _ = absurd (isnt a b c refl)
no_number (call.Write a b c d) _ _ _ _ _ isnt _ _ _ _ _ _ _ _ _ _ _ _ _ _ = absurd (isnt a b c d refl)
no_number (call.Pread a b c d) _ _ _ _ _ _ isnt _ _ _ _ _ _ _ _ _ _ _ _ _ = absurd (isnt a b c d refl)
no_number (call.Pwrite a b c d) _ _ _ _ _ _ _ isnt _ _ _ _ _ _ _ _ _ _ _ _ = absurd (isnt a b c d refl)
no_number (call.Lseek a b c) _ _ _ _ _ _ _ _ isnt _ _ _ _ _ _ _ _ _ _ _ = absurd (isnt a b c refl)
no_number (call.Readdir a b c) _ _ _ _ _ _ _ _ _ isnt _ _ _ _ _ _ _ _ _ _ = absurd (isnt a b c refl)
no_number (call.Ftruncate a b) _ _ _ _ _ _ _ _ _ _ isnt _ _ _ _ _ _ _ _ _ = absurd (isnt a b refl)
no_number (call.Fstat a) _ _ _ _ _ _ _ _ _ _ _ isnt _ _ _ _ _ _ _ _ = absurd (isnt a refl)
no_number (call.Bind a b) _ _ _ _ _ _ _ _ _ _ _ _ isnt _ _ _ _ _ _ _ = absurd (isnt a b refl)
no_number (call.Listen a) _ _ _ _ _ _ _ _ _ _ _ _ _ isnt _ _ _ _ _ _ = absurd (isnt a refl)
no_number (call.Connect a b) _ _ _ _ _ _ _ _ _ _ _ _ _ _ isnt _ _ _ _ _ = absurd (isnt a b refl)
no_number (call.Accept a) _ _ _ _ _ _ _ _ _ _ _ _ _ _ _ isnt _ _ _ _ = absurd (isnt a refl)
no_number (call.Shutdown a b) _ _ _ _ _ _ _ _ _ _ _ _ _ _ _ _ isnt _ _ _ = absurd (isnt a b refl)
no_number (call.Setlk a b c d) _ _ _ _ _ _ _ _ _ _ _ _ _ _ _ _ _ isnt _ _ = absurd (isnt a b c d refl)
no_number (call.Setlkw a b c d) _ _ _ _ _ _ _ _ _ _ _ _ _ _ _ _ _ _ isnt _ = absurd (isnt a b c d refl)
no_number (call.Getlk a b c d) _ _ _ _ _ _ _ _ _ _ _ _ _ _ _ _ _ _ _ isnt = absurd (isnt a b c d refl)
no_number _ _ _ _ _ _ _ _ _ _ _ _ _ _ _ _ _ _ _ _ _ = refl

-- ---- a call that moves no bytes

pub no_bytes : (which : Call) → ((a b c : ℤ) → which ≡ call.Read a b c → ⊥) → ((a b c : ℤ) (done : ℕ) → which ≡ call.Write a b c done → ⊥)
    → false ≡ is_moving which
no_bytes (call.Read a b c) isnt _ = absurd (isnt a b c refl)
no_bytes (call.Write a b c done) _ isnt = absurd (isnt a b c done refl)
no_bytes _ _ _ = refl
