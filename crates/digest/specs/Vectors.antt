-- Published values of the two functions, each digest written as one number.
use Rattle.std.specs.Prelude.{◌≡◌, [], replicate, codes}
use Rattle.octets.specs.Numbers.{big_endian}
use Rattle.digest.specs.Hash.{hmac, sha256}

-- the empty message, the examples of FIPS 180-4 with one block and with two, and test cases 1 and 2 of RFC 4231
pub record PublishedVectors : Type 0 where
  pub empty : sha256 [] ≡ big_endian 32 0xe3b0c44298fc1c149afbf4c8996fb92427ae41e4649b934ca495991b7852b855
  pub one_block : sha256 (codes "abc") ≡ big_endian 32 0xba7816bf8f01cfea414140de5dae2223b00361a396177a9cb410ff61f20015ad
  pub two_blocks :
      sha256 (codes "abcdbcdecdefdefgefghfghighijhijkijkljklmklmnlmnomnopnopq")
      ≡ big_endian 32 0x248d6a61d20638b8e5c026930c3e6039a33ce45964ff2167f6ecedd419db06c1
  pub mac_1 :
      hmac (replicate 20 0x0b) (codes "Hi There")
      ≡ big_endian 32 0xb0344c61d8db38535ca8afceaf0bf12b881dc200c9833da726e9376c2e32cff7
  pub mac_2 :
      hmac (codes "Jefe") (codes "what do ya want for nothing?")
      ≡ big_endian 32 0x5bdcc146bf60754e6a042426089575c75a003f089d2739839dec58b964ec3843
