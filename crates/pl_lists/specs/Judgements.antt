-- A judgement gives a value, or it is a fault. Of judgements in a row the first fault wins.
use Rattle.std.specs.Prelude.{◌≡◌, Bool, MatchBool, List, [], ◌∷◌, ◌++◌, Result, Ok, Err, if◌then◌else◌}

-- what follows is judged where the value is there, else the fault stays
infixl 10 ◌>>=◌
abbrev pub ◌>>=◌ : {F X Y : Type 0} → Result X F → (X → Result Y F) → Result Y F
(Ok x) >>= f = f x
(Err e) >>= f = Err e

infixl 10 ◌>>◌
abbrev pub ◌>>◌ : {F Y : Type 0} → Result (Unit {0}) F → Result Y F → Result Y F
(Ok x) >> later = later
(Err e) >> later = Err e

-- the judgement of a test, whose failure is this fault
abbrev pub unless : {F : Type 0} → Bool → F → Result (Unit {0}) F
unless test e = if test then Ok tt else Err e

-- the first fault of the items, in their order
abbrev pub each : {F X : Type 0} → (X → Result (Unit {0}) F) → List X → Result (Unit {0}) F
each judge [] = Ok tt
each judge (x ∷ xs) = judge x >> each judge xs

-- what is made of each item, in their order
abbrev pub each_made : {F X Y : Type 0} → (X → Result Y F) → List X → Result (List Y) F
each_made make [] = Ok []
each_made make (x ∷ xs) = make x >>= λ y. each_made make xs >>= λ ys. Ok (y ∷ ys)

-- behind what was made before
abbrev pub behind : {F X : Type 0} → List X → Result (List X) F → Result (List X) F
behind found judged = judged >>= λ more. Ok (found ++ more)

-- A call gave what is meant, or ran out of memory: the fault that the test tells.
abbrev pub Fails : {F X : Type 0} → (F → Bool) → F → Result X F → Type 0
Fails is_memory e meant = MatchBool (is_memory e) (Unit {0}) (meant ≡ Err e)

abbrev pub Gives : {F X : Type 0} → (F → Bool) → Result X F → Result X F → Type 0
Gives is_memory (Ok x) meant = meant ≡ Ok x
Gives is_memory (Err e) meant = Fails is_memory e meant

-- the same, of what a value shows
abbrev pub Shows : {F X Y : Type 0} → (F → Bool) → (X → Y) → Result X F → Result Y F → Type 0
Shows is_memory view (Ok x) meant = meant ≡ Ok (view x)
Shows is_memory view (Err e) meant = Fails is_memory e meant
