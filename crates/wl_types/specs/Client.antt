-- The client id of an agent (own).
use Rattle.std.specs.Prelude.{ℕ, List, ◌++◌, codes, decimal}

abbrev pub client_id : ℕ → List ℕ
client_id n = codes "client-" ++ decimal n
