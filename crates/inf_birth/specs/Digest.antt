-- The digest that identifiers are made by: SHA-256, cut short.
use Rattle.std.specs.Prelude.{ℕ, ◌-◌, List, ◌++◌, take, replicate}
use Rattle.sha2.specs.Sha256.{sha256}
use Rattle.inf_base.specs.declared.id.Id.{Id}
use Rattle.inf_base.specs.declared.limits.TheConstants.{MOST_DIGEST_BYTES}

-- the first so many bytes of a digest, and zeros in place of the others
abbrev pub cut : ℕ → List ℕ → List ℕ
cut kept bytes = take kept bytes ++ replicate (MOST_DIGEST_BYTES - kept) 0

-- the digest of a message, with so many of its bytes kept
abbrev pub sha_id : ℕ → List ℕ → Id
sha_id kept message = record { bytes = cut kept (sha256 message) }
