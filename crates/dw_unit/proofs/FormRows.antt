-- Worked rows: a value of each form, computed by the plain reader.
use Rattle.std.specs.Prelude.{negsuc, ◌≡◌, ◌∷◌, [], Some, None}
use Rattle.std.proofs.Common.{refl}
use Rattle.dw_leb.specs.declared.order.Order.TheVariants.{Little}
use Rattle.dw_leb.specs.declared.order.Format.TheVariants.{Dwarf32, Dwarf64}
use Rattle.dw_leb.specs.Reader.{Found}
use Rattle.dw_form.specs.Form.{shape, Num, Wide, Uleb, Sleb, Block, Text, Present, Implicit}
use Rattle.dw_form.specs.ReadForm.{read_attribute}
use Rattle.dw_unit.proofs.Samples.{narrow, plain, little, big}

-- ---- each form

addr : read_attribute (little Dwarf32) 0x01 None (0x01 ∷ 0x02 ∷ 0x03 ∷ 0x04 ∷ 0x05 ∷ 0x06 ∷ 0x07 ∷ 0x08 ∷ []) 99 ≡ Found (plain (Num 0x0807060504030201)) 8
unfolding shape read_attribute
addr = refl

addr_of_three_bytes : read_attribute (record { order = Little; format = Dwarf32; address_size = 3 }) 0x01 None (0x01 ∷ 0x02 ∷ 0x03 ∷ []) 99 ≡ Found (plain (Num 0x030201)) 3
unfolding shape read_attribute
addr_of_three_bytes = refl

block2 : read_attribute (little Dwarf32) 0x03 None (0x02 ∷ 0x00 ∷ 0xaa ∷ 0xbb ∷ []) 99 ≡ Found (plain (Block 2 (0xaa ∷ 0xbb ∷ []))) 4
unfolding shape read_attribute
block2 = refl

block4 : read_attribute (little Dwarf32) 0x04 None (0x02 ∷ 0x00 ∷ 0x00 ∷ 0x00 ∷ 0xaa ∷ 0xbb ∷ []) 99 ≡ Found (plain (Block 4 (0xaa ∷ 0xbb ∷ []))) 6
unfolding shape read_attribute
block4 = refl

data2 : read_attribute (little Dwarf32) 0x05 None (0x01 ∷ 0x02 ∷ []) 99 ≡ Found (plain (Num 0x0201)) 2
unfolding shape read_attribute
data2 = refl

data4 : read_attribute (little Dwarf32) 0x06 None (0x01 ∷ 0x02 ∷ 0x03 ∷ 0x04 ∷ []) 99 ≡ Found (plain (Num 0x04030201)) 4
unfolding shape read_attribute
data4 = refl

data8 : read_attribute (little Dwarf32) 0x07 None (0x01 ∷ 0x02 ∷ 0x03 ∷ 0x04 ∷ 0x05 ∷ 0x06 ∷ 0x07 ∷ 0x08 ∷ []) 99 ≡ Found (plain (Num 0x0807060504030201)) 8
unfolding shape read_attribute
data8 = refl

string : read_attribute (little Dwarf32) 0x08 None (0x61 ∷ 0x62 ∷ 0x00 ∷ []) 99 ≡ Found (plain (Text (0x61 ∷ 0x62 ∷ []))) 3
unfolding shape read_attribute
string = refl

-- a block keeps the width of its length
block : read_attribute (little Dwarf32) 0x09 None (0x82 ∷ 0x00 ∷ 0xaa ∷ 0xbb ∷ []) 99 ≡ Found (plain (Block 2 (0xaa ∷ 0xbb ∷ []))) 4
unfolding shape read_attribute
block = refl

block1 : read_attribute (little Dwarf32) 0x0a None (0x02 ∷ 0xaa ∷ 0xbb ∷ []) 99 ≡ Found (plain (Block 1 (0xaa ∷ 0xbb ∷ []))) 3
unfolding shape read_attribute
block1 = refl

data1 : read_attribute (little Dwarf32) 0x0b None (0x04 ∷ []) 99 ≡ Found (plain (Num 4)) 1
unfolding shape read_attribute
data1 = refl

flag : read_attribute (little Dwarf32) 0x0c None (0x01 ∷ []) 99 ≡ Found (plain (Num 1)) 1
unfolding shape read_attribute
flag = refl

sdata : read_attribute (little Dwarf32) 0x0d None (0x7f ∷ []) 99 ≡ Found (plain (Sleb (record { value = negsuc 0; width = 1 }))) 1
unfolding shape read_attribute
sdata = refl

strp : read_attribute (little Dwarf32) 0x0e None (0x01 ∷ 0x02 ∷ 0x03 ∷ 0x04 ∷ []) 99 ≡ Found (plain (Num 0x04030201)) 4
unfolding shape read_attribute
strp = refl

udata : read_attribute (little Dwarf32) 0x0f None (0x85 ∷ 0x00 ∷ []) 99 ≡ Found (plain (Uleb (record { value = 5; width = 2 }))) 2
unfolding shape read_attribute
udata = refl

ref_addr : read_attribute (little Dwarf32) 0x10 None (0x01 ∷ 0x02 ∷ 0x03 ∷ 0x04 ∷ []) 99 ≡ Found (plain (Num 0x04030201)) 4
unfolding shape read_attribute
ref_addr = refl

ref1 : read_attribute (little Dwarf32) 0x11 None (0x0c ∷ []) 99 ≡ Found (plain (Num 0x0c)) 1
unfolding shape read_attribute
ref1 = refl

ref2 : read_attribute (little Dwarf32) 0x12 None (0x0c ∷ 0x00 ∷ []) 99 ≡ Found (plain (Num 0x0c)) 2
unfolding shape read_attribute
ref2 = refl

ref4 : read_attribute (little Dwarf32) 0x13 None (0x0c ∷ 0x00 ∷ 0x00 ∷ 0x00 ∷ []) 99 ≡ Found (plain (Num 0x0c)) 4
unfolding shape read_attribute
ref4 = refl

ref8 : read_attribute (little Dwarf32) 0x14 None (0x0c ∷ 0x00 ∷ 0x00 ∷ 0x00 ∷ 0x00 ∷ 0x00 ∷ 0x00 ∷ 0x00 ∷ []) 99 ≡ Found (plain (Num 0x0c)) 8
unfolding shape read_attribute
ref8 = refl

ref_udata : read_attribute (little Dwarf32) 0x15 None (0x0c ∷ []) 99 ≡ Found (plain (Uleb (narrow 0x0c))) 1
unfolding shape read_attribute
ref_udata = refl

sec_offset : read_attribute (little Dwarf32) 0x17 None (0x01 ∷ 0x02 ∷ 0x03 ∷ 0x04 ∷ []) 99 ≡ Found (plain (Num 0x04030201)) 4
unfolding shape read_attribute
sec_offset = refl

exprloc : read_attribute (little Dwarf32) 0x18 None (0x02 ∷ 0x91 ∷ 0x00 ∷ []) 99 ≡ Found (plain (Block 1 (0x91 ∷ 0x00 ∷ []))) 3
unfolding shape read_attribute
exprloc = refl

flag_present : read_attribute (little Dwarf32) 0x19 None [] 99 ≡ Found (plain (Present)) 0
unfolding shape read_attribute
flag_present = refl

strx : read_attribute (little Dwarf32) 0x1a None (0x01 ∷ []) 99 ≡ Found (plain (Uleb (narrow 1))) 1
unfolding shape read_attribute
strx = refl

addrx : read_attribute (little Dwarf32) 0x1b None (0x01 ∷ []) 99 ≡ Found (plain (Uleb (narrow 1))) 1
unfolding shape read_attribute
addrx = refl

ref_sup4 : read_attribute (little Dwarf32) 0x1c None (0x01 ∷ 0x02 ∷ 0x03 ∷ 0x04 ∷ []) 99 ≡ Found (plain (Num 0x04030201)) 4
unfolding shape read_attribute
ref_sup4 = refl

strp_sup : read_attribute (little Dwarf32) 0x1d None (0x01 ∷ 0x02 ∷ 0x03 ∷ 0x04 ∷ []) 99 ≡ Found (plain (Num 0x04030201)) 4
unfolding shape read_attribute
strp_sup = refl

data16 : read_attribute (little Dwarf32) 0x1e None (0x01 ∷ 0x00 ∷ 0x00 ∷ 0x00 ∷ 0x00 ∷ 0x00 ∷ 0x00 ∷ 0x00 ∷ 0x02 ∷ 0x00 ∷ 0x00 ∷ 0x00 ∷ 0x00 ∷ 0x00 ∷ 0x00 ∷ 0x00 ∷ []) 99 ≡ Found (plain (Wide 0x20000000000000001)) 16
unfolding shape read_attribute
data16 = refl

line_strp : read_attribute (little Dwarf32) 0x1f None (0x01 ∷ 0x02 ∷ 0x03 ∷ 0x04 ∷ []) 99 ≡ Found (plain (Num 0x04030201)) 4
unfolding shape read_attribute
line_strp = refl

ref_sig8 : read_attribute (little Dwarf32) 0x20 None (0x01 ∷ 0x02 ∷ 0x03 ∷ 0x04 ∷ 0x05 ∷ 0x06 ∷ 0x07 ∷ 0x08 ∷ []) 99 ≡ Found (plain (Num 0x0807060504030201)) 8
unfolding shape read_attribute
ref_sig8 = refl

implicit_const : read_attribute (little Dwarf32) 0x21 (Some (record { value = negsuc 0; width = 2 })) [] 99 ≡ Found (plain (Implicit (record { value = negsuc 0; width = 2 }))) 0
unfolding shape read_attribute
implicit_const = refl

loclistx : read_attribute (little Dwarf32) 0x22 None (0x01 ∷ []) 99 ≡ Found (plain (Uleb (narrow 1))) 1
unfolding shape read_attribute
loclistx = refl

rnglistx : read_attribute (little Dwarf32) 0x23 None (0x01 ∷ []) 99 ≡ Found (plain (Uleb (narrow 1))) 1
unfolding shape read_attribute
rnglistx = refl

ref_sup8 : read_attribute (little Dwarf32) 0x24 None (0x01 ∷ 0x02 ∷ 0x03 ∷ 0x04 ∷ 0x05 ∷ 0x06 ∷ 0x07 ∷ 0x08 ∷ []) 99 ≡ Found (plain (Num 0x0807060504030201)) 8
unfolding shape read_attribute
ref_sup8 = refl

strx1 : read_attribute (little Dwarf32) 0x25 None (0x01 ∷ []) 99 ≡ Found (plain (Num 0x01)) 1
unfolding shape read_attribute
strx1 = refl

strx2 : read_attribute (little Dwarf32) 0x26 None (0x01 ∷ 0x02 ∷ []) 99 ≡ Found (plain (Num 0x0201)) 2
unfolding shape read_attribute
strx2 = refl

strx3 : read_attribute (little Dwarf32) 0x27 None (0x01 ∷ 0x02 ∷ 0x03 ∷ []) 99 ≡ Found (plain (Num 0x030201)) 3
unfolding shape read_attribute
strx3 = refl

strx4 : read_attribute (little Dwarf32) 0x28 None (0x01 ∷ 0x02 ∷ 0x03 ∷ 0x04 ∷ []) 99 ≡ Found (plain (Num 0x04030201)) 4
unfolding shape read_attribute
strx4 = refl

addrx1 : read_attribute (little Dwarf32) 0x29 None (0x01 ∷ []) 99 ≡ Found (plain (Num 0x01)) 1
unfolding shape read_attribute
addrx1 = refl

addrx2 : read_attribute (little Dwarf32) 0x2a None (0x01 ∷ 0x02 ∷ []) 99 ≡ Found (plain (Num 0x0201)) 2
unfolding shape read_attribute
addrx2 = refl

addrx3 : read_attribute (little Dwarf32) 0x2b None (0x01 ∷ 0x02 ∷ 0x03 ∷ []) 99 ≡ Found (plain (Num 0x030201)) 3
unfolding shape read_attribute
addrx3 = refl

addrx4 : read_attribute (little Dwarf32) 0x2c None (0x01 ∷ 0x02 ∷ 0x03 ∷ 0x04 ∷ []) 99 ≡ Found (plain (Num 0x04030201)) 4
unfolding shape read_attribute
addrx4 = refl

gnu_ref_alt : read_attribute (little Dwarf32) 0x1f20 None (0x01 ∷ 0x02 ∷ 0x03 ∷ 0x04 ∷ []) 99 ≡ Found (plain (Num 0x04030201)) 4
unfolding shape read_attribute
gnu_ref_alt = refl

gnu_strp_alt : read_attribute (little Dwarf32) 0x1f21 None (0x01 ∷ 0x02 ∷ 0x03 ∷ 0x04 ∷ []) 99 ≡ Found (plain (Num 0x04030201)) 4
unfolding shape read_attribute
gnu_strp_alt = refl

strp_of_the_64_bit_format : read_attribute (little Dwarf64) 0x0e None (0x01 ∷ 0x02 ∷ 0x03 ∷ 0x04 ∷ 0x05 ∷ 0x06 ∷ 0x07 ∷ 0x08 ∷ []) 99 ≡ Found (plain (Num 0x0807060504030201)) 8
unfolding shape read_attribute
strp_of_the_64_bit_format = refl

big_endian_data4 : read_attribute (big Dwarf32) 0x06 None (0x01 ∷ 0x02 ∷ 0x03 ∷ 0x04 ∷ []) 99 ≡ Found (plain (Num 0x01020304)) 4
unfolding shape read_attribute
big_endian_data4 = refl
