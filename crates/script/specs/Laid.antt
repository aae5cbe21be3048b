-- Values laid into the front of a lent array, as many as fit.
use Rattle.std.specs.Prelude.{ℕ, min, List, ◌++◌, length, take, drop}

-- how many of them fit
abbrev pub fitting : List ℕ → List ℕ → ℕ
fitting values array = min (length values) (length array)

-- the array afterwards: so many of the values, and the places behind them as they were
unfoldable pub laid : List ℕ → List ℕ → List ℕ
laid values array = take (fitting values array) values ++ drop (fitting values array) array
