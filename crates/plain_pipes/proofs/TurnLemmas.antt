-- What one pipe's change, its going and its coming leave of the list of pipes, of the fronts and of the sum of chunks.
use Rattle.std.proofs.Common.{◌≡◌, ℕ, ◌-◌, Bool, true, false, List, [], ◌∷◌, ◌++◌, cond, set, Option, None, Some, refl, ap, sym, ◌∙◌, subst, inl, inr, arith}
use Rattle.std.specs.Prelude.{◌==◌, ◌&&◌, ◌||◌, nat_lt, if◌then◌else◌}
use Rattle.std.specs.Option.{option_map}
use Rattle.std.proofs.lemmas.Bool.{and_from, and_left, and_right, cases_Bool, eq-eqb, false≢true, ltb-false, ltb-true, ne_eqb, or_cases}
use Rattle.std.proofs.lemmas.List.{map-set, set-set}
use Rattle.posix_defs.specs.Pipe.{Pipe, after_close, while_open, without_reader, without_writer}
use Rattle.posix_defs.specs.Files.State.{Files, pipe_at, with_pipe}
use Rattle.kept_places.specs.Places.{at, put, without}
use Rattle.plain_bytes.specs.Unread.{nothing, taken_by}
use Rattle.plain_bytes.specs.Many.{AreKept, queues_of}
use Rattle.plain_bytes.proofs.ManyLemmas.{follow_fade, follow_set}
use Rattle.plain_bytes.proofs.KeptLemmas.{fade_added, fade_out, follow_put, kept_gone, queue_here}
use Rattle.plain_pipes.specs.Held.{FrontsFollow, Held, becomes, pipe_in, pipe_of, pipes_in, queue_of}
use Rattle.plain_pipes.proofs.PlaceLemmas.{fronts_follow, pipe_is, pipe_is_in}

-- ---- whether a pipe has an end still

ends_some : (readers writers : ℕ) → (nat_lt 0 readers || nat_lt 0 writers) ≡ true → ((readers == 0) && (writers == 0)) ≡ false
ends_some readers writers some = elim (or_cases (nat_lt 0 readers) (nat_lt 0 writers) some) [
  | inl reads ↦ and_left (readers == 0) (writers == 0) (ne_eqb readers 0 (λ none. omega (arith, ltb-true 0 readers reads, none)))
  | inr writes ↦ and_right (readers == 0) (writers == 0) (ne_eqb writers 0 (λ none. omega (arith, ltb-true 0 writers writes, none)))
]

ends_none : (readers writers : ℕ) → (nat_lt 0 readers || nat_lt 0 writers) ≡ false → ((readers == 0) && (writers == 0)) ≡ true
ends_none readers writers none = elim (cases_Bool (nat_lt 0 readers)) [
  | inl reads ↦ absurd (false≢true (sym none ∙ ap (λ b. b || nat_lt 0 writers) reads))
  | inr unread ↦ elim (cases_Bool (nat_lt 0 writers)) [
    | inl writes ↦ absurd (false≢true (sym none ∙ ap (λ b. b || nat_lt 0 writers) unread ∙ writes))
    | inr unwritten ↦
        and_from (readers == 0) (writers == 0) (eq-eqb readers 0 (omega (arith, ltb-false 0 readers unread)))
        (eq-eqb writers 0 (omega (arith, ltb-false 0 writers unwritten)))
  ]
]

stays_open : (pipe : Pipe) → (nat_lt 0 pipe.readers || nat_lt 0 pipe.writers) ≡ true → while_open pipe ≡ Some pipe
stays_open pipe some = ap (λ b. cond b None (Some pipe)) (ends_some pipe.readers pipe.writers some)

ends : (pipe : Pipe) → (nat_lt 0 pipe.readers || nat_lt 0 pipe.writers) ≡ false → while_open pipe ≡ None
ends pipe none = ap (λ b. cond b None (Some pipe)) (ends_none pipe.readers pipe.writers none)

-- one end less
abbrev pub closed_of : Bool → Pipe → Pipe
closed_of writing pipe = if writing then without_writer pipe else without_reader pipe

-- ---- a change

module _ (held : List (Option Held)) (place : ℕ) (old : Held) (there : at held place ≡ Some old) where
  pub list_turned : (next : Pipe → Pipe) (now : Held) → now ≡ becomes old (next old.pipe)
      → pipes_in (put held place now) ≡ set (pipes_in held) place (Some (next (pipe_in held place)))
  list_turned next now is =
      map-set (option_map pipe_of) held place (Some now)
      ∙ ap (λ pipe. set (pipes_in held) place (Some pipe)) (ap pipe_of is ∙ ap next (sym (pipe_is_in held place old there)))

  pub pipes_turned : (files : Files) (next : Pipe → Pipe) (now : Held) → now ≡ becomes old (next old.pipe) → files.pipes ≡ pipes_in held
      → pipes_in (put held place now) ≡ (with_pipe files place (Some (next (pipe_at files place)))).pipes
  pipes_turned files next now is same =
      map-set (option_map pipe_of) held place (Some now)
      ∙ ap (λ pipes. set pipes place (Some now.pipe)) (sym same)
      ∙ ap (λ pipe. set files.pipes place (Some pipe)) (ap pipe_of is ∙ ap next (sym (pipe_is held files place old same there)))

  pub fronts_turned : (pipe : Pipe) (now : Held) (chunks : ℕ) → now ≡ becomes old pipe → AreKept queue_of held chunks
      → FrontsFollow held (put held place now)
  fronts_turned pipe now chunks is are =
      subst (λ n. FrontsFollow held (put held place n)) (sym is)
      (fronts_follow held (put held place (becomes old pipe))
      (follow_put queue_of held place old there (becomes old pipe) are.queues
      (follow_set (queues_of queue_of held) place (queue_of old) (queue_of (becomes old pipe)) are.queues (queue_here queue_of held place old there) refl)))

  -- an end was closed, and the pipe has another one
  pub pipes_closed : (files : Files) (writing : Bool) (now : Held) → now ≡ becomes old (closed_of writing old.pipe) → files.pipes ≡ pipes_in held
      → (nat_lt 0 now.pipe.readers || nat_lt 0 now.pipe.writers) ≡ true
      → pipes_in (put held place now) ≡ (with_pipe files place (after_close (pipe_at files place) writing)).pipes
  pipes_closed files writing now is same some =
      let left : now.pipe ≡ closed_of writing (pipe_at files place) =
      ap pipe_of is ∙ ap (closed_of writing) (sym (pipe_is held files place old same there)) in
      let still : after_close (pipe_at files place) writing ≡ Some (closed_of writing (pipe_at files place)) =
      stays_open (closed_of writing (pipe_at files place))
      (subst (λ (pipe : Pipe). (nat_lt 0 pipe.readers || nat_lt 0 pipe.writers) ≡ true) left some) in
      pipes_turned files (closed_of writing) now is same ∙ ap (λ o. set files.pipes place o) (sym still)

  -- ---- its going

  pub fronts_gone : (chunks : ℕ) → AreKept queue_of held chunks → FrontsFollow held (without held place)
  fronts_gone chunks are =
      fronts_follow held (without held place)
      (follow_fade (queues_of queue_of held) (queues_of queue_of (without held place)) are.queues (fade_out queue_of held place old there))

  pub kept_left : (chunks before : ℕ) → AreKept queue_of held chunks → before ≡ taken_by (queue_of old)
      → AreKept queue_of (without held place) (chunks - before)
  kept_left chunks before are was =
      subst (λ n. AreKept queue_of (without held place) (chunks - n)) (sym was) (kept_gone queue_of held place old there chunks are)

  -- the last end was closed
  pub pipes_ended : (files : Files) (writing : Bool) (now : Held) → now ≡ becomes old (closed_of writing old.pipe) → files.pipes ≡ pipes_in held
      → (nat_lt 0 now.pipe.readers || nat_lt 0 now.pipe.writers) ≡ false
      → pipes_in (without held place) ≡ (with_pipe files place (after_close (pipe_at files place) writing)).pipes
  pipes_ended files writing now is same none =
      let left : now.pipe ≡ closed_of writing (pipe_at files place) =
      ap pipe_of is ∙ ap (closed_of writing) (sym (pipe_is held files place old same there)) in
      let gone : after_close (pipe_at files place) writing ≡ None =
      ends (closed_of writing (pipe_at files place))
      (subst (λ (pipe : Pipe). (nat_lt 0 pipe.readers || nat_lt 0 pipe.writers) ≡ false) left none) in
      map-set (option_map pipe_of) held place None ∙ ap (λ pipes. set pipes place None) (sym same) ∙ ap (λ o. set files.pipes place o) (sym gone)

  -- what was put there goes
  pub put_gone : (now : Held) → without (put held place now) place ≡ without held place
  put_gone now = set-set held place (Some now) None

-- ---- a new one comes behind the others

pub fronts_added : (held : List (Option Held)) (new : Held) (chunks : ℕ) → queue_of new ≡ nothing → AreKept queue_of held chunks
    → FrontsFollow held (held ++ Some new ∷ [])
fronts_added held new chunks empty are =
    fronts_follow held (held ++ Some new ∷ [])
    (follow_fade (queues_of queue_of held) (queues_of queue_of (held ++ Some new ∷ [])) are.queues (fade_added queue_of held new empty))
