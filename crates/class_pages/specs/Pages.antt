-- A list of classes in pages of 4096.
use Rattle.std.specs.Prelude.{◌≡◌, ℕ, ◌+◌, ◌*◌, ◌/◌, ◌^◌, ◌<◌, List, All, length, take, drop, slice_index_or}
use Rattle.std.specs.List.{flat_map}

-- how many pages so many classes have
abbrev pub page_count : ℕ → ℕ
page_count n = (n + 4095) / 4096

-- the classes of page k: 4096 of them, or what is left
abbrev pub page_of : List ℕ → ℕ → List ℕ
page_of cs k = take 4096 (drop (k * 4096) cs)

-- pages with n classes together, few enough for numbers of 32 bits, each of which but the last has 4096; a class is a byte
pub record IsPaged {P : Type 0} (f : P → List ℕ) (n : ℕ) (pages : List P) : Type 0 where
  pub long : length (flat_map f pages) ≡ n
  pub few : n < 2 ^ 32
  pub bytes : All (λ class. class < 256) (flat_map f pages)
  pub count : length pages ≡ page_count n
  pub each : (k : ℕ) (d : P) → k < length pages → f (slice_index_or pages k d) ≡ page_of (flat_map f pages) k
