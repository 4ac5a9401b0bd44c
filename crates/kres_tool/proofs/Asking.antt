-- The commands that words are.
use Rattle.std.proofs.Common.{◌≡◌, ℕ, ◌≤◌, List, [], ◌∷◌, MatchOption, refl, sym, ap, ◌∙◌, arith}
use Rattle.std.specs.Prelude.{String}
use Rattle.std.proofs.lemmas.Fmt.{decimal_injective}
use Rattle.kres_tool.specs.declared.commands.Command.{Command}
use Rattle.kres_tool.specs.declared.commands.Command.TheVariants.{OnScript, Table, Gen, Load, Groups}
use Rattle.kres_tool.specs.declared.commands.Task.TheVariants as task
use Rattle.kres_tool.specs.Words.{Asks, AsksNoThread, IsAllowed, command_by, most_rounds, most_workers, threaded_by, words_of}

-- the first and the second byte of the first of some words
first_byte : List (List ℕ) → ℕ
first_byte [] = 0
first_byte ([] ∷ words) = 0
first_byte ((byte ∷ bytes) ∷ words) = byte

second_byte : List (List ℕ) → ℕ
second_byte [] = 0
second_byte ([] ∷ words) = 0
second_byte ((_ ∷ []) ∷ words) = 0
second_byte ((_ ∷ byte ∷ bytes) ∷ words) = byte

second_word : List (List ℕ) → List ℕ
second_word (_ ∷ word ∷ words) = word
second_word _ = []

-- two numbers whose digits are the same, of rounds and of workers
same_rounds : (rounds rounds' : ℕ) → rounds ≤ most_rounds → rounds' ≤ most_rounds → words_of (Gen rounds) ≡ words_of (Gen rounds') → Gen rounds ≡ Gen rounds'
unfolding second_word
same_rounds rounds rounds' few few' same = ap Gen (decimal_injective rounds rounds' (omega arith) (omega arith) (ap second_word same))

same_loads : (rounds rounds' : ℕ) → rounds ≤ most_rounds → rounds' ≤ most_rounds → words_of (Load rounds) ≡ words_of (Load rounds') → Load rounds ≡ Load rounds'
unfolding second_word
same_loads rounds rounds' few few' same = ap Load (decimal_injective rounds rounds' (omega arith) (omega arith) (ap second_word same))

same_workers : (workers workers' : ℕ) → workers ≤ most_workers → workers' ≤ most_workers → words_of (OnScript (task.Threads workers)) ≡ words_of (OnScript (task.Threads workers'))
    → OnScript (task.Threads workers) ≡ OnScript (task.Threads workers')
unfolding second_word
same_workers workers workers' few few' same = ap (λ n. OnScript (task.Threads n)) (decimal_injective workers workers' (omega arith) (omega arith) (ap second_word same))

same_groups : (workers workers' : ℕ) → workers ≤ most_workers → workers' ≤ most_workers → words_of (Groups workers) ≡ words_of (Groups workers') → Groups workers ≡ Groups workers'
unfolding second_word
same_groups workers workers' few few' same = ap Groups (decimal_injective workers workers' (omega arith) (omega arith) (ap second_word same))

-- words are one command at most
one_command : (first second : Command) → IsAllowed first → IsAllowed second → words_of first ≡ words_of second → first ≡ second
unfolding first_byte second_byte
one_command (OnScript task.Sim) (OnScript task.Sim) _ _ same = refl
one_command (OnScript task.Sim) (OnScript (task.Threads _)) _ _ same = absurd (let wrong : 115 ≡ 116 = ap first_byte same in omega (arith, wrong))
one_command (OnScript task.Sim) (OnScript task.Print) _ _ same = absurd (let wrong : 115 ≡ 112 = ap first_byte same in omega (arith, wrong))
one_command (OnScript task.Sim) Table _ _ same = absurd (let wrong : 115 ≡ 116 = ap first_byte same in omega (arith, wrong))
one_command (OnScript task.Sim) (Gen rounds) _ _ same = absurd (let wrong : 115 ≡ 103 = ap first_byte same in omega (arith, wrong))
one_command (OnScript task.Sim) (Load rounds) _ _ same = absurd (let wrong : 115 ≡ 108 = ap first_byte same in omega (arith, wrong))
one_command (OnScript task.Sim) (Groups _) _ _ same = absurd (let wrong : 115 ≡ 103 = ap first_byte same in omega (arith, wrong))
one_command (OnScript (task.Threads _)) (OnScript task.Sim) _ _ same = absurd (let wrong : 116 ≡ 115 = ap first_byte same in omega (arith, wrong))
one_command (OnScript (task.Threads workers)) (OnScript (task.Threads workers')) few few' same = same_workers workers workers' few.1 few'.1 same
one_command (OnScript (task.Threads _)) (OnScript task.Print) _ _ same = absurd (let wrong : 116 ≡ 112 = ap first_byte same in omega (arith, wrong))
one_command (OnScript (task.Threads _)) Table _ _ same = absurd (let wrong : 104 ≡ 97 = ap second_byte same in omega (arith, wrong))
one_command (OnScript (task.Threads _)) (Gen rounds) _ _ same = absurd (let wrong : 116 ≡ 103 = ap first_byte same in omega (arith, wrong))
one_command (OnScript (task.Threads _)) (Load rounds) _ _ same = absurd (let wrong : 116 ≡ 108 = ap first_byte same in omega (arith, wrong))
one_command (OnScript (task.Threads _)) (Groups _) _ _ same = absurd (let wrong : 116 ≡ 103 = ap first_byte same in omega (arith, wrong))
one_command (OnScript task.Print) (OnScript task.Sim) _ _ same = absurd (let wrong : 112 ≡ 115 = ap first_byte same in omega (arith, wrong))
one_command (OnScript task.Print) (OnScript (task.Threads _)) _ _ same = absurd (let wrong : 112 ≡ 116 = ap first_byte same in omega (arith, wrong))
one_command (OnScript task.Print) (OnScript task.Print) _ _ same = refl
one_command (OnScript task.Print) Table _ _ same = absurd (let wrong : 112 ≡ 116 = ap first_byte same in omega (arith, wrong))
one_command (OnScript task.Print) (Gen rounds) _ _ same = absurd (let wrong : 112 ≡ 103 = ap first_byte same in omega (arith, wrong))
one_command (OnScript task.Print) (Load rounds) _ _ same = absurd (let wrong : 112 ≡ 108 = ap first_byte same in omega (arith, wrong))
one_command (OnScript task.Print) (Groups _) _ _ same = absurd (let wrong : 112 ≡ 103 = ap first_byte same in omega (arith, wrong))
one_command Table (OnScript task.Sim) _ _ same = absurd (let wrong : 116 ≡ 115 = ap first_byte same in omega (arith, wrong))
one_command Table (OnScript (task.Threads _)) _ _ same = absurd (let wrong : 97 ≡ 104 = ap second_byte same in omega (arith, wrong))
one_command Table (OnScript task.Print) _ _ same = absurd (let wrong : 116 ≡ 112 = ap first_byte same in omega (arith, wrong))
one_command Table Table _ _ same = refl
one_command Table (Gen rounds) _ _ same = absurd (let wrong : 116 ≡ 103 = ap first_byte same in omega (arith, wrong))
one_command Table (Load rounds) _ _ same = absurd (let wrong : 116 ≡ 108 = ap first_byte same in omega (arith, wrong))
one_command Table (Groups _) _ _ same = absurd (let wrong : 116 ≡ 103 = ap first_byte same in omega (arith, wrong))
one_command (Gen rounds) (OnScript task.Sim) _ _ same = absurd (let wrong : 103 ≡ 115 = ap first_byte same in omega (arith, wrong))
one_command (Gen rounds) (OnScript (task.Threads _)) _ _ same = absurd (let wrong : 103 ≡ 116 = ap first_byte same in omega (arith, wrong))
one_command (Gen rounds) (OnScript task.Print) _ _ same = absurd (let wrong : 103 ≡ 112 = ap first_byte same in omega (arith, wrong))
one_command (Gen rounds) Table _ _ same = absurd (let wrong : 103 ≡ 116 = ap first_byte same in omega (arith, wrong))
one_command (Gen rounds) (Gen rounds') few few' same = same_rounds rounds rounds' few few' same
one_command (Gen rounds) (Load _) _ _ same = absurd (let wrong : 103 ≡ 108 = ap first_byte same in omega (arith, wrong))
one_command (Gen rounds) (Groups _) _ _ same = absurd (let wrong : 101 ≡ 114 = ap second_byte same in omega (arith, wrong))
one_command (Load rounds) (OnScript task.Sim) _ _ same = absurd (let wrong : 108 ≡ 115 = ap first_byte same in omega (arith, wrong))
one_command (Load rounds) (OnScript (task.Threads _)) _ _ same = absurd (let wrong : 108 ≡ 116 = ap first_byte same in omega (arith, wrong))
one_command (Load rounds) (OnScript task.Print) _ _ same = absurd (let wrong : 108 ≡ 112 = ap first_byte same in omega (arith, wrong))
one_command (Load rounds) Table _ _ same = absurd (let wrong : 108 ≡ 116 = ap first_byte same in omega (arith, wrong))
one_command (Load rounds) (Gen _) _ _ same = absurd (let wrong : 108 ≡ 103 = ap first_byte same in omega (arith, wrong))
one_command (Load rounds) (Load rounds') few few' same = same_loads rounds rounds' few few' same
one_command (Load rounds) (Groups _) _ _ same = absurd (let wrong : 108 ≡ 103 = ap first_byte same in omega (arith, wrong))
one_command (Groups _) (OnScript task.Sim) _ _ same = absurd (let wrong : 103 ≡ 115 = ap first_byte same in omega (arith, wrong))
one_command (Groups _) (OnScript (task.Threads _)) _ _ same = absurd (let wrong : 103 ≡ 116 = ap first_byte same in omega (arith, wrong))
one_command (Groups _) (OnScript task.Print) _ _ same = absurd (let wrong : 103 ≡ 112 = ap first_byte same in omega (arith, wrong))
one_command (Groups _) Table _ _ same = absurd (let wrong : 103 ≡ 116 = ap first_byte same in omega (arith, wrong))
one_command (Groups _) (Gen rounds) _ _ same = absurd (let wrong : 114 ≡ 101 = ap second_byte same in omega (arith, wrong))
one_command (Groups _) (Load rounds) _ _ same = absurd (let wrong : 103 ≡ 108 = ap first_byte same in omega (arith, wrong))
one_command (Groups workers) (Groups workers') few few' same = same_groups workers workers' few.1 few'.1 same

pub asks_once : {A : Type 0} (words : List (String A)) (first second : Command) → Asks words first → Asks words second → first ≡ second
asks_once words first second asks asks_too = one_command first second asks.1 asks_too.1 (sym asks.0 ∙ asks_too.0)

-- what a command that is asked for does in threads; where it starts none, no other that does is asked for
pub threads_or_none : {A : Type 0} (words : List (String A)) (command : Command) → Asks words command
    → MatchOption (threaded_by command) (AsksNoThread words) (λ threaded. Asks words (command_by threaded))
threads_or_none words (OnScript (task.Threads workers)) asks = asks
threads_or_none words (Groups workers) asks = asks
threads_or_none words (OnScript task.Sim) asks = record {
  script = λ workers others. absurd (let same : OnScript task.Sim ≡ OnScript (task.Threads workers) = asks_once words (OnScript task.Sim) (OnScript (task.Threads workers)) asks others in cc);
  groups = λ workers others. absurd (let same : OnScript task.Sim ≡ Groups workers = asks_once words (OnScript task.Sim) (Groups workers) asks others in cc);
}
threads_or_none words (OnScript task.Print) asks = record {
  script = λ workers others. absurd (let same : OnScript task.Print ≡ OnScript (task.Threads workers) = asks_once words (OnScript task.Print) (OnScript (task.Threads workers)) asks others in cc);
  groups = λ workers others. absurd (let same : OnScript task.Print ≡ Groups workers = asks_once words (OnScript task.Print) (Groups workers) asks others in cc);
}
threads_or_none words Table asks = record {
  script = λ workers others. absurd (let same : Table ≡ OnScript (task.Threads workers) = asks_once words Table (OnScript (task.Threads workers)) asks others in cc);
  groups = λ workers others. absurd (let same : Table ≡ Groups workers = asks_once words Table (Groups workers) asks others in cc);
}
threads_or_none words (Gen rounds) asks = record {
  script = λ workers others. absurd (let same : Gen rounds ≡ OnScript (task.Threads workers) = asks_once words (Gen rounds) (OnScript (task.Threads workers)) asks others in cc);
  groups = λ workers others. absurd (let same : Gen rounds ≡ Groups workers = asks_once words (Gen rounds) (Groups workers) asks others in cc);
}
threads_or_none words (Load rounds) asks = record {
  script = λ workers others. absurd (let same : Load rounds ≡ OnScript (task.Threads workers) = asks_once words (Load rounds) (OnScript (task.Threads workers)) asks others in cc);
  groups = λ workers others. absurd (let same : Load rounds ≡ Groups workers = asks_once words (Load rounds) (Groups workers) asks others in cc);
}
