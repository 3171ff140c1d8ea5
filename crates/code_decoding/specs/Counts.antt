-- What decoding gives: how many cells were lowered, and how many error patterns were tried.
use Rattle.std.specs.Prelude.{ℕ}
use Rattle.code_decoding.specs.declared.Decoded.{Decoded}

abbrev pub count_of : Decoded → ℕ
count_of x = x.count

abbrev pub tried_of : Decoded → ℕ
tried_of x = x.tried
